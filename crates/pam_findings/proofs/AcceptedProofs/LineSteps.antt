-- The lines of an accept file, one after another.
use Rattle.std.proofs.Common.{◌≡◌, ◌∙◌, ◌+◌, ◌<◌, ◌≤◌, ◌^◌, ◌==◌, ℕ, Bool, true, false, List, [], ◌∷◌, ◌++◌, Bor, append-nil, append_assoc}
use Rattle.std.proofs.Common.{ap, arith, cond, drop, eqb, get_or, length, refl, sym}
use Rattle.std.proofs.Common.{Option, Some, None, Result, Ok, Err}
use Rattle.std.proofs.lemmas.Bool.{eqb-true}
use Rattle.std.proofs.lemmas.List.{drop_all, drop_more, length-append}
use Rattle.std.proofs.lemmas.List.Splits.{length-slice_split}
use Rattle.std.proofs.lemmas.List.Sums.{count_by-le-length}
use Rattle.std.specs.List.{join_with_byte}
use Rattle.std.specs.Option.{option_map_or}
use Rattle.pam_text.specs.Source.{source_fault}
use Rattle.pam_text.specs.declared.source.TheConstants.{MAX_FILE_BYTES}
use Rattle.pam_text.specs.declared.source.SourceFault.{SourceFault}
use Rattle.pam_findings.specs.accepted.Error.{TellsFault}
use Rattle.pam_findings.specs.accepted.Keys.{is_finding}
use Rattle.pam_findings.specs.accepted.Lines.{Accepted, accepted_lines, lines_from, physical_lines, onto_accepted, onto_lines}
use Rattle.pam_findings.specs.accepted.inner.Lines.{AddsLine, before_lines}
use Rattle.pam_findings.specs.accepted.Words.{words_of}
use Rattle.pam_findings.proofs.AcceptedProofs.WordSteps.{texts}
use Rattle.pam_findings.specs.declared.accepted.error.AcceptError.{AcceptError}
use Rattle.pam_findings.specs.declared.accepted.error.AcceptError.TheVariants.{BadAccept, Memory, Source}

-- the byte at which a file is cut
abbrev pub is_feed : ℕ → Bool
is_feed b = b == 10

-- ---- one line

-- a failed allocation tells nothing of the lines
pub memory_fails : (number : ℕ) (line : List ℕ) (old new : List Accepted) (result : Result (Unit {0}) AcceptError) (e : AcceptError)
    → result ≡ Err e → e ≡ Memory → AddsLine number line old new result
memory_fails number line old new result e is none = rw (is, none) (λ others. tt)

one_before : (old : List Accepted) (line : Accepted) (others : Result (List Accepted) AcceptError)
    → before_lines (old ++ line ∷ []) others ≡ before_lines old (onto_accepted line others)
one_before old line (Ok lines) = ap Ok (append_assoc old (line ∷ []) lines)
one_before old line (Err e) = refl

module _ (number : ℕ) (old : List Accepted) (words : List (Bor (List ℕ))) (all : List (List ℕ)) (others : Result (List Accepted) AcceptError)
    (are : texts words ≡ all) where
  pub line_skipped : eqb (length words) 0 ≡ true → before_lines old others ≡ before_lines old (onto_lines number all others)
  line_skipped none = rw (sym are) (no_words words none)
    where
      no_words : (ws : List (Bor (List ℕ))) → eqb (length ws) 0 ≡ true → before_lines old others ≡ before_lines old (onto_lines number (texts ws) others)
      no_words [] h = refl
      no_words (w ∷ ws) h = let e = eqb-true (length (w ∷ ws)) 0 h in absurd (omega (arith, e))

  -- words that are read, where there are some
  chosen : (good : Bool) → eqb (length words) 0 ≡ false → is_finding (texts words) ≡ good
      → onto_lines number all others ≡ cond good (onto_accepted (number, join_with_byte 32 (texts words)) others) (Err (BadAccept number))
  chosen good some is = rw (sym are) (with_words words some is)
    where
      with_words : (ws : List (Bor (List ℕ))) → eqb (length ws) 0 ≡ false → is_finding (texts ws) ≡ good
          → onto_lines number (texts ws) others ≡ cond good (onto_accepted (number, join_with_byte 32 (texts ws)) others) (Err (BadAccept number))
      with_words [] h e = absurd (cc)
      with_words (w ∷ ws) h e = ap (λ t. cond t (onto_accepted (number, join_with_byte 32 (texts (w ∷ ws))) others) (Err (BadAccept number))) e

  pub line_refused : eqb (length words) 0 ≡ false → is_finding (texts words) ≡ false → before_lines old (onto_lines number all others) ≡ Err (BadAccept number)
  line_refused some bad = ap (before_lines old) (chosen false some bad)

  pub line_added : (new : List Accepted) (key : List ℕ) → eqb (length words) 0 ≡ false → is_finding (texts words) ≡ true
      → key ≡ join_with_byte 32 (texts words) → new ≡ old ++ (number, key) ∷ [] → before_lines new others ≡ before_lines old (onto_lines number all others)
  line_added new key some good is put =
      ap (λ (lines : List Accepted). before_lines lines others) put
      ∙ one_before old (number, key) others
      ∙ ap (λ (k : List ℕ). before_lines old (onto_accepted (number, k) others)) is
      ∙ sym (ap (before_lines old) (chosen true some good))

-- ---- all lines

-- before any line is read
pub lines_begin : (others : Result (List Accepted) AcceptError) (read : List Accepted) → read ≡ [] → before_lines read others ≡ others
lines_begin others read none = ap (λ (lines : List Accepted). before_lines lines others) none ∙ before_none others
  where
    before_none : (others : Result (List Accepted) AcceptError) → before_lines [] others ≡ others
    before_none (Ok lines) = refl
    before_none (Err e) = refl

-- a file without a fault of the bytes as a whole
pub whole_file : (bytes : List ℕ) → source_fault bytes ≡ None → lines_from 1 (physical_lines bytes) ≡ accepted_lines bytes
unfolding accepted_lines
whole_file bytes none = sym (ap (λ (o : Option SourceFault). option_map_or (λ f. Err (Source f)) o (lines_from 1 (physical_lines bytes))) none)

pub source_told : (bytes : List ℕ) (fault : SourceFault) (e : AcceptError) → source_fault bytes ≡ Some fault → e ≡ Source fault
    → TellsFault e (accepted_lines bytes)
unfolding accepted_lines
source_told bytes fault e is from =
    rw from (ap (λ (o : Option SourceFault). option_map_or (λ f. Err (Source f)) o (lines_from 1 (physical_lines bytes))) is)

-- the lines of a file, those that are seen, and those that are read
module _ (parts : List (List ℕ)) (seen : List (Bor (List ℕ))) (line : Bor (List ℕ)) (read : List Accepted) (all : Result (List Accepted) AcceptError)
    (within : length seen < length parts) (is : line.now ≡ get_or parts (length seen) line.now)
    (same : before_lines read (lines_from (length seen + 1) (drop (length seen) parts)) ≡ all) where
  -- the lines after this one
  abbrev after : Result (List Accepted) AcceptError
  after = lines_from (length (seen ++ line ∷ []) + 1) (drop (length (seen ++ line ∷ [])) parts)

  this_line : before_lines read (onto_lines (length seen + 1) (words_of line.now) after) ≡ all
  unfolding lines_from
  this_line =
      ap (λ (n : ℕ). before_lines read (onto_lines (length seen + 1) (words_of line.now) (lines_from (n + 1) (drop n parts)))) (length-append seen (line ∷ []))
      ∙ ap (λ (l : List ℕ). before_lines read (lines_from (length seen + 1) (l ∷ drop (length seen + 1) parts))) is
      ∙ sym (ap (λ (ls : List (List ℕ)). before_lines read (lines_from (length seen + 1) ls)) (drop_more parts (length seen) line.now within))
      ∙ same

  pub line_read : (number : ℕ) (new : List Accepted) → number ≡ length seen → AddsLine (number + 1) line.now read new (Ok tt)
      → before_lines new after ≡ all
  line_read number new count added = added after ∙ ap (λ n. before_lines read (onto_lines (n + 1) (words_of line.now) after)) count ∙ this_line

  pub line_fails : (number : ℕ) (new : List Accepted) (e : AcceptError) → number ≡ length seen → AddsLine (number + 1) line.now read new (Err e)
      → TellsFault e all
  line_fails number new e count fails =
      rw (sym (ap (λ n. before_lines read (onto_lines (n + 1) (words_of line.now) after)) count ∙ this_line)) (fails after)

pub lines_end : (parts : List (List ℕ)) (n number : ℕ) (read : List Accepted) (all : Result (List Accepted) AcceptError) → n ≡ length parts
    → before_lines read (lines_from number (drop n parts)) ≡ all → all ≡ Ok read
unfolding lines_from
lines_end parts n number read all whole same =
    sym same
    ∙ ap (λ (ls : List (List ℕ)). before_lines read (lines_from number ls)) (drop_all n parts (omega (arith, whole)))
    ∙ ap Ok (append-nil read)

-- a file has few lines
pub number_fits : (bytes : List ℕ) (seen number : ℕ) → seen < length (physical_lines bytes) → number ≡ seen
    → length bytes ≤ MAX_FILE_BYTES → number + 1 < 2 ^ 32
number_fits bytes seen number within count short =
    let lines = length-slice_split is_feed bytes in
    let few = count_by-le-length is_feed bytes in
    omega (arith, within, count, short, lines, few)
