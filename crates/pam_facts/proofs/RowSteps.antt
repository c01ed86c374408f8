-- The row of a line, and the rows of lines one after another.
use Rattle.std.proofs.Common.{◌≡◌, ◌∙◌, ◌++◌, ℕ, Bool, true, false, nat_eq, List, []}
use Rattle.std.proofs.Common.{◌∷◌, codes, Option, Some, None, if◌then◌else◌, Result, Ok, Err, refl, sym, ap}
use Rattle.std.proofs.Common.{append_assoc, append-nil}
use Rattle.std.specs.List.{starts_with}
use Rattle.std.specs.Option.{option_map_or}
use Rattle.pam_text.specs.Source.{source_fault}
use Rattle.pam_text.specs.declared.source.SourceFault.{SourceFault}
use Rattle.pam_text.specs.declared.source.SourceFault.TheVariants as source
use Rattle.pam_facts.specs.Error.{TellsFault, error_at, source_error}
use Rattle.pam_tables.specs.Lines.{lines_from}
use Rattle.pam_facts.specs.Reading.{after_rows, onto_rows, row_if_any, rows_from, rows_in, rows_of}
use Rattle.pam_facts.specs.Rows.{Row, is_name, or_bad, row_after, row_of, row_of_words}
use Rattle.pam_facts.specs.Words.{words_of}
use Rattle.pam_facts.specs.declared.error.FactsError.{FactsError}
use Rattle.pam_facts.specs.declared.error.FactsFault.{FactsFault}
use Rattle.pam_facts.specs.declared.error.FactsFault.TheVariants.{BadFact, Memory, NulByte, TooLong}

-- ---- a line

module _ (line : List ℕ) where
  pub comment : starts_with nat_eq line (codes "#") ≡ true → row_of line ≡ Ok None
  unfolding row_of
  comment h = rw h refl

  module _ (kept : starts_with nat_eq line (codes "#") ≡ false) where
    said : (words : List (List ℕ)) → words_of line ≡ words → row_of line ≡ row_of_words words
    unfolding row_of
    said words e = rw kept (ap row_of_words e)

    pub no_words : words_of line ≡ [] → row_of line ≡ Ok None
    no_words e = said [] e

    module _ (name : List ℕ) (words : List (List ℕ)) (e : words_of line ≡ name ∷ words) where
      pub bad_name : is_name name ≡ false → row_of line ≡ Err BadFact
      bad_name h = said (name ∷ words) e ∙ ap (λ (t : Bool). if t then or_bad (row_after name words) else Err BadFact) h

      pub named : is_name name ≡ true → (row : Option Row) → row ≡ row_after name words → row_of line ≡ or_bad row
      named good row is =
          said (name ∷ words) e ∙ ap (λ (t : Bool). if t then or_bad (row_after name words) else Err BadFact) good ∙ ap or_bad (sym is)

-- ---- line by line

onto_known : (known : List Row) (row : Row) (n : ℕ) (others : Result (List Row) FactsError) →
    after_rows (known ++ row ∷ []) others ≡ after_rows known (onto_rows n (Ok (Some row)) others)
onto_known known row n (Ok rows) = ap Ok (append_assoc known (row ∷ []) rows)
onto_known known row n (Err e) = refl

module _ (known : List Row) (n : ℕ) (line : List ℕ) (all lines : List (ℕ × List ℕ)) (e : all ≡ (n, line) ∷ lines) where
  pub line_added : (new : List Row) (row : Row) → row_of line ≡ Ok (Some row) → new ≡ known ++ row ∷ [] →
      after_rows new (rows_from lines) ≡ after_rows known (rows_from all)
  unfolding rows_from
  line_added new row is put =
      rw put (onto_known known row n (rows_from lines) ∙ ap (λ r. after_rows known (onto_rows n r (rows_from lines))) (sym is)
      ∙ ap (λ (ls : List (ℕ × List ℕ)). after_rows known (rows_from ls)) (sym e))

  pub line_skipped : row_of line ≡ Ok None → after_rows known (rows_from lines) ≡ after_rows known (rows_from all)
  unfolding rows_from
  line_skipped is =
      ap (λ r. after_rows known (onto_rows n r (rows_from lines))) (sym is) ∙ ap (λ (ls : List (ℕ × List ℕ)). after_rows known (rows_from ls)) (sym e)

  pub line_fails : (fault : FactsFault) → row_of line ≡ Err fault → after_rows known (rows_from all) ≡ Err (error_at fault n)
  unfolding rows_from
  line_fails fault is =
      ap (λ (ls : List (ℕ × List ℕ)). after_rows known (rows_from ls)) e ∙ ap (λ r. after_rows known (onto_rows n r (rows_from lines))) is

pub lines_end : (known : List Row) (all : List (ℕ × List ℕ)) → all ≡ [] → after_rows known (rows_from all) ≡ Ok known
unfolding rows_from
lines_end known all e = ap (λ (ls : List (ℕ × List ℕ)). after_rows known (rows_from ls)) e ∙ ap Ok (append-nil known)

-- the bytes as a whole have a fault, or none
pub bytes_fail : (known : List Row) (bytes : List ℕ) (fault : SourceFault) → source_fault bytes ≡ Some fault →
    after_rows known (rows_of bytes) ≡ Err (source_error fault)
unfolding rows_of
bytes_fail known bytes fault e =
    ap (λ (o : Option SourceFault). after_rows known (option_map_or (λ f. Err (source_error f)) o (rows_from (lines_from 1 bytes)))) e

pub bytes_pass : (known : List Row) (bytes : List ℕ) → source_fault bytes ≡ None →
    after_rows known (rows_of bytes) ≡ after_rows known (rows_from (lines_from 1 bytes))
unfolding rows_of
bytes_pass known bytes e =
    ap (λ (o : Option SourceFault). after_rows known (option_map_or (λ f. Err (source_error f)) o (rows_from (lines_from 1 bytes)))) e

-- an error tells what is meant
pub source_told : {Y : Type 0} (fault : SourceFault) (meant : Result Y FactsError) → meant ≡ Err (source_error fault) →
    TellsFault (source_error fault).fault (source_error fault) meant
source_told source.TooLong meant h = h
source_told (source.NulByte line) meant h = h

pub line_told : {Y : Type 0} (fault : FactsFault) (n : ℕ) (meant : Result Y FactsError) → meant ≡ Err (error_at fault n) →
    TellsFault (error_at fault n).fault (error_at fault n) meant
line_told BadFact n meant h = h
line_told NulByte n meant h = h
line_told Memory n meant h = refl
line_told TooLong n meant h = h

-- ---- lines whose faults are passed over

module _ (known : List Row) (line : List ℕ) (all lines : List (List ℕ)) (e : all ≡ line ∷ lines) where
  pub row_taken : (new : List Row) (row : Row) → row_of line ≡ Ok (Some row) → new ≡ known ++ row ∷ [] → new ++ rows_in lines ≡ known ++ rows_in all
  row_taken new row is put = rw (put, e, is) (append_assoc known (row ∷ []) (rows_in lines))

  pub none_taken : row_if_any (row_of line) ≡ None → known ++ rows_in lines ≡ known ++ rows_in all
  none_taken is = rw (e, is) refl
