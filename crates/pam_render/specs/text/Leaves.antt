-- The text that a call writes when it answers.
use Rattle.std.specs.Prelude.{◌≡◌, ℕ, List, Option, Result, Ok, Err}
use Rattle.pam_codes.specs.Out.{Out, TookFlushed, TookFront}
use Rattle.pam_paths.specs.declared.cursor.CursorError.{CursorError}
use Rattle.pam_report.specs.Finds.{Refuses}
use Rattle.pam_report.specs.Reply.{Answer, Reply, status_of}
use Rattle.pam_report.specs.declared.fault.Fault.{Fault}
use Rattle.pam_report.specs.declared.fault.Fault.TheVariants as faults
use Rattle.pam_report.specs.declared.report.Status.{Status}

-- if this is the text of a reply
module _ {W : Type 0} (contents : W → Option (List ℕ)) (IsText : Reply → Result (List ℕ) CursorError → Type 0) (old new : Out W) where
  -- the text of the reply of an answer is written in full and then flushed once, or written up to some byte and not flushed if the
  -- writer failed. Nothing is written if the answer is a fault, the cursor of a page is refused, or an allocation failed
  abbrev pub LeavesFault : (Answer → Type 0) → Fault → Type 0
  LeavesFault IsAnswer faults.Device = (reply : Reply) × (text : List ℕ) × IsAnswer (Ok reply) × IsText reply (Ok text) × TookFront contents old new text
  LeavesFault IsAnswer faults.Memory = new ≡ old
  LeavesFault IsAnswer (faults.Cursor e) = (new ≡ old) × ((reply : Reply) × IsAnswer (Ok reply) × IsText reply (Err e))
  LeavesFault IsAnswer fault = (new ≡ old) × Refuses IsAnswer fault

  -- for an answer that satisfies a relation
  abbrev pub LeavesSome : Result Status Fault → (Answer → Type 0) → Type 0
  LeavesSome (Ok status) IsAnswer =
      (reply : Reply) × (text : List ℕ) × IsAnswer (Ok reply) × IsText reply (Ok text) × (status ≡ status_of reply) × TookFlushed contents old new text
  LeavesSome (Err fault) IsAnswer = LeavesFault IsAnswer fault
