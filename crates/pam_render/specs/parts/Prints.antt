-- What a call writes of a reply, in a form of answers.
use Rattle.std.specs.Prelude.{◌≡◌, ℕ, List, Option, Result, Ok, Err, true}
use Rattle.pam_paths.specs.declared.cursor.CursorError.{CursorError}
use Rattle.pam_report.specs.Reply.{Reply, wants_memory}
use Rattle.pam_report.specs.declared.fault.Fault.{Fault}
use Rattle.pam_report.specs.declared.fault.Fault.TheVariants as faults
use Rattle.pam_text.specs.Out.{TookFlushed, TookFront}
use Rattle.pam_text.specs.declared.out.Out.{Out}

-- if this is the text of a reply in the form: it is written in full and then flushed once, or written up to some byte and not
-- flushed if the writer failed. Nothing is written if the cursor of a page is refused, or if an allocation failed for a reply that
-- wants memory
module _ {W : Type 0} (contents : W → Option (List ℕ)) (IsText : Reply → Result (List ℕ) CursorError → Type 0) (old new : Out W) where
  abbrev pub PrintsBy : Result (Unit {0}) Fault → Reply → Type 0
  PrintsBy (Ok _) reply = (text : List ℕ) × IsText reply (Ok text) × TookFlushed contents old new text
  PrintsBy (Err faults.Device) reply = (text : List ℕ) × IsText reply (Ok text) × TookFront contents old new text
  PrintsBy (Err faults.Memory) reply = (new ≡ old) × (wants_memory reply ≡ true)
  PrintsBy (Err (faults.Cursor e)) reply = (new ≡ old) × IsText reply (Err e)
  PrintsBy (Err fault) reply = ⊥
