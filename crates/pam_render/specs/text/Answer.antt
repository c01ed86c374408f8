-- The answer to a request: what a call writes, and its status.
use Rattle.std.specs.Prelude.{ℕ, List, Option, Result, unwrap_or}
use Rattle.pam_codes.specs.Out.{Out}
use Rattle.pam_report.specs.Answer.{AnswersBy}
use Rattle.pam_report.specs.Candidates.{CandidateText}
use Rattle.pam_report.specs.Inputs.{files_given, no_files}
use Rattle.pam_report.specs.Memory.{WantsOnly, wants}
use Rattle.pam_report.specs.declared.fault.Fault.{Fault}
use Rattle.pam_report.specs.declared.inputs.Inputs.{Inputs}
use Rattle.pam_report.specs.declared.report.Status.{Status}
use Rattle.pam_words.specs.declared.wanted.OutputForm.{OutputForm}
use Rattle.pam_words.specs.declared.wanted.Task.{Task}
use Rattle.pam_render.specs.text.Leaves.{LeavesSome}
use Rattle.pam_render.specs.text.Text.{IsTextIn}

-- THE ANSWER to a task for a service with these candidates, from these inputs, and what the call writes in this form
abbrev pub Answers : {W : Type 0} → (W → Option (List ℕ)) → Out W → Out W → Result Status Fault → OutputForm → List ℕ → List CandidateText → Task → Inputs
    → Type 0
Answers contents old new result output service candidates task inputs =
    AnswersBy (LeavesSome contents (IsTextIn output) old new result) service candidates task (unwrap_or (files_given inputs) no_files) inputs
    × WantsOnly (wants task inputs) result
