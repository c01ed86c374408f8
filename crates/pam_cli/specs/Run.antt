-- A run of the program: from the words to the status, and what is left on standard output.
use Rattle.std.specs.Prelude.{◌≡◌, ◌⊎◌, Bool, true, ℕ, List, Option, Result, Ok, Err, MatchOption, map}
use Rattle.clap.specs.Words.{fault_of, subcommand_of, takes}
use Rattle.pam_codes.specs.Out.{Out}
use Rattle.pam_render.specs.text.Answer.{Answers}
use Rattle.pam_report.specs.Fault.{status_of_fault, status_of_input, status_of_usage}
use Rattle.pam_report.specs.Inputs.{unread_given}
use Rattle.pam_report.specs.Reply.{status_number}
use Rattle.pam_report.specs.Left.{has_unread}
use Rattle.pam_report.specs.declared.fault.Fault.{Fault}
use Rattle.pam_report.specs.declared.fault.Fault.TheVariants as faults
use Rattle.pam_report.specs.declared.inputs.InputError.{InputError}
use Rattle.pam_report.specs.declared.inputs.Inputs.{Inputs}
use Rattle.pam_report.specs.declared.report.Status.{Status}
use Rattle.pam_words.specs.Request.{request_of}
use Rattle.pam_words.specs.Wanted.{IsRead, IsRefusal, Reads, RefusesBy, candidate_view}
use Rattle.pam_words.specs.Words.{pamcheck_app}
use Rattle.pam_words.specs.declared.wanted.Request.{Request}
use Rattle.pam_words.specs.declared.wanted.Usage.{Usage}
use Rattle.pam_words.specs.declared.wanted.Usage.TheVariants as usage
use Rattle.pam_cli.specs.Reading.{IsReading}
use Rattle.pam_cli.specs.System.{Told}

-- the words are this request, or are refused: what `request` of pam_words ensures
pub record Asks (words : List (List ℕ)) (asked : Result Request Usage) : Type 0 where
  pub reads : MatchOption (subcommand_of pamcheck_app words) (IsRefusal asked) (λ p. Reads (request_of p.0 p.1) asked)
  pub taken : takes pamcheck_app words ≡ true → IsRead asked
  pub refused : RefusesBy (fault_of pamcheck_app words) asked

-- the status of an answer, or of its fault
abbrev pub status_of_answer : Result Status Fault → ℕ
status_of_answer (Ok status) = status_number status
status_of_answer (Err fault) = status_of_fault fault

-- though a file of a check cannot be read, the services that take no rules from it are checked
abbrev pub status_with : Bool → Result Status Fault → ℕ
status_with true (Ok status) = status_of_fault faults.Unread
status_with unread answered = status_of_answer answered

module _ {W : Type 0} (contents : W → Option (List ℕ)) (old new : Out W) (status : ℕ) where
  -- only help is written to standard output, and its write may fail
  abbrev pub EndsRefused : Usage → Type 0
  EndsRefused (usage.Help error) = (status ≡ 0) ⊎ (status ≡ status_of_fault faults.Device)
  EndsRefused refusal = (new ≡ old) × (status ≡ status_of_usage refusal)

  -- the answer is that of the inputs
  abbrev pub EndsAnswered : Request → Inputs → Type 0
  EndsAnswered request inputs =
      (answered : Result Status Fault)
      × Answers contents old new answered request.output request.service.now (map candidate_view request.candidates.items) request.task inputs
      × (status ≡ status_with (has_unread (unread_given inputs)) answered)

  -- the answer, or why the inputs cannot be read
  abbrev pub EndsRead : Request → Result Inputs InputError → Type 0
  EndsRead request (Ok inputs) = EndsAnswered request inputs
  EndsRead request (Err error) = (new ≡ old) × (status ≡ status_of_input error)

module _ (told : Told) {W : Type 0} (contents : W → Option (List ℕ)) (old new : Out W) (status : ℕ) where
  -- what the system answers are inputs of the request, which are answered, or one cannot be read
  abbrev pub EndsRequest : Request → Type 0
  EndsRequest request =
      (given : Result Inputs InputError)
      × IsReading told (map candidate_view request.candidates.items) request.task given
      × EndsRead contents old new status request given

  abbrev pub EndsAsked : Result Request Usage → Type 0
  EndsAsked (Ok request) = EndsRequest request
  EndsAsked (Err refusal) = EndsRefused contents old new status refusal

  -- THE RUN: the words are refused, or their request is answered
  unfoldable pub Runs : List (List ℕ) → Type 0
  Runs words = (asked : Result Request Usage) × Asks words asked × EndsAsked asked
