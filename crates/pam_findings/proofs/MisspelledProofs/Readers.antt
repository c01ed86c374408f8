-- A reader that goes on to the next line.
use Rattle.std.proofs.Common.{◌≡◌, ◌≤◌, ◌<◌, ◌∷◌, ℕ, Bool, true, false, subst}
use Rattle.pam_findings.specs.misspelled.Lines.{Lines, line_of, lines_in}
use Rattle.pam_findings.specs.misspelled.inner.Reading.{AreRead, IsNext, IsReading, if_last, left_of}
use Rattle.pam_findings.specs.declared.misspelled.reader.Reader.{Reader}
use Rattle.pam_findings.proofs.MisspelledProofs.ReadLines.{at_next, one_more}

module _ (old new : Reader) (reading : IsReading old) where
  from_next : IsNext true old new → AreRead (lines_in old.files.now old.file) old.number old.line.items ((new.number, new.line.items) ∷ left_of new)
  from_next next = subst (λ (left : Lines). AreRead (lines_in old.files.now old.file) old.number old.line.items left) next reading

  pub read_on : (more : Bool) → more ≡ true → IsNext more old new → new.files ≡ old.files → new.file ≡ old.file → IsReading new
  read_on true e next same file =
      rw (same, file)
      (one_more (lines_in old.files.now old.file) (left_of new) old.number new.number old.line.items new.line.items (from_next next))
  read_on false e next same file = absurd (cc)

  -- the line that is sought comes before or at the next one
  pub sought_next : (more : Bool) → more ≡ true → IsNext more old new → (number : ℕ) → old.number < number → number ≤ new.number
      → line_of old.files.now old.file number ≡ if_last number new.number new.line.items
  sought_next true e next number after upto =
      at_next (lines_in old.files.now old.file) (left_of new) number old.number new.number old.line.items new.line.items (from_next next) after upto
  sought_next false e next number after upto = absurd (cc)
