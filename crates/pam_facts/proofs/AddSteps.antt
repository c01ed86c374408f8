-- The rows of files and of the table, as lines are added.
use Rattle.std.proofs.Common.{◌≡◌, ◌∙◌, ◌++◌, ℕ, List, [], ◌∷◌, Option, Some, None, Result, Ok, Err, refl, sym, ap, append-nil}
use Rattle.std.specs.Prelude.{OnOk}
use Rattle.pam_facts.specs.Error.{TellsFault, error_at}
use Rattle.pam_facts.specs.inner.Error.{FailsIn}
use Rattle.pam_facts.specs.Reading.{after_rows, rows_from, rows_in}
use Rattle.pam_facts.specs.inner.Reading.{unless_memory, with_row}
use Rattle.pam_facts.specs.Rows.{Row, row_of}
use Rattle.pam_facts.specs.declared.error.FactsError.{FactsError}
use Rattle.pam_facts.specs.declared.error.FactsFault.{FactsFault}
use Rattle.pam_facts.specs.declared.error.FactsFault.TheVariants.{BadFact, Memory, NulByte, TooLong}
use Rattle.pam_facts.proofs.RowSteps.{line_added, line_skipped}

pub row_fault : (known : List Row) (r : Result (Option Row) FactsFault) (fault : FactsFault) → with_row known r ≡ Err fault → r ≡ Err fault
row_fault known (Ok None) fault h = absurd (cc)
row_fault known (Ok (Some row)) fault h = absurd (cc)
row_fault known (Err f) fault h = let same : f ≡ fault = cc in ap Err same

-- the fault of a line is told, unless an allocation failed
pub fault_told : {Y : Type 0} (known : List Row) (r : Result (Option Row) FactsFault) (fault : FactsFault) (n : ℕ) (meant : Result Y FactsError) →
    FailsIn fault (with_row known r) → (r ≡ Err fault → meant ≡ Err (error_at fault n)) → TellsFault (error_at fault n).fault (error_at fault n) meant
fault_told known r BadFact n meant h is = is (row_fault known r BadFact h)
fault_told known r NulByte n meant h is = is (row_fault known r NulByte h)
fault_told known r Memory n meant h is = refl
fault_told known r TooLong n meant h is = is (row_fault known r TooLong h)

-- a line is read
pub line_read : (known new : List Row) (n : ℕ) (line : List ℕ) (all lines : List (ℕ × List ℕ)) → all ≡ (n, line) ∷ lines →
    with_row known (row_of line) ≡ Ok new → after_rows new (rows_from lines) ≡ after_rows known (rows_from all)
line_read known new n line all lines e h = go (row_of line) refl h
  where
    go : (r : Result (Option Row) FactsFault) → row_of line ≡ r → with_row known r ≡ Ok new →
        after_rows new (rows_from lines) ≡ after_rows known (rows_from all)
    go (Ok None) is g =
        let same : known ≡ new = cc in
        ap (λ (rows : List Row). after_rows rows (rows_from lines)) (sym same) ∙ line_skipped known n line all lines e is
    go (Ok (Some row)) is g = let same : known ++ row ∷ [] ≡ new = cc in line_added known n line all lines e new row is (sym same)
    go (Err fault) is g = absurd (cc)

-- ---- the table

-- a line of the table is read
pub table_line_read : (known new : List Row) (line : List ℕ) → with_row known (row_of line) ≡ Ok new → new ≡ known ++ rows_in (line ∷ [])
table_line_read known new line h = go (row_of line) refl h
  where
    go : (r : Result (Option Row) FactsFault) → row_of line ≡ r → with_row known r ≡ Ok new → new ≡ known ++ rows_in (line ∷ [])
    go (Ok None) is g = let same : known ≡ new = cc in rw is (sym same ∙ sym (append-nil known))
    go (Ok (Some row)) is g = let same : known ++ row ∷ [] ≡ new = cc in rw is (sym same)
    go (Err fault) is g = absurd (cc)

-- it has a fault, and is passed over
passed : (known new : List Row) (line : List ℕ) (fault : FactsFault) → row_of line ≡ Err fault → new ≡ known → new ≡ known ++ rows_in (line ∷ [])
passed known new line fault is same = rw is (same ∙ sym (append-nil known))

pub table_line_passed : (known new : List Row) (line : List ℕ) (fault : FactsFault) → FailsIn fault (with_row known (row_of line)) → new ≡ known →
    OnOk (unless_memory fault) (new ≡ known ++ rows_in (line ∷ []))
table_line_passed known new line BadFact h same = passed known new line BadFact (row_fault known (row_of line) BadFact h) same
table_line_passed known new line NulByte h same = passed known new line NulByte (row_fault known (row_of line) NulByte h) same
table_line_passed known new line Memory h same = tt
table_line_passed known new line TooLong h same = passed known new line TooLong (row_fault known (row_of line) TooLong h) same
