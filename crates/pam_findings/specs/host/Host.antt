-- A host, and which of its stacks meet a problem: pam.conf(5).
use Rattle.std.specs.Prelude.{◌≡◌, ◌⊎◌, ℕ, ◌<◌, ◌++◌, List, [], Some, length, slice_get, unwrap_or}
use Rattle.pam_conf.specs.Files.{Folder}
use Rattle.pam_conf.specs.Survey.{SurveyText, surveyed}
use Rattle.pam_conf.specs.declared.rule.Kind.{Kind}
use Rattle.pam_text.specs.Members.{Member}
use Rattle.pam_findings.specs.host.Beside.{beside}
use Rattle.pam_findings.specs.host.FileProblems.{FileHas, files_read}
use Rattle.pam_findings.specs.host.Inside.{HasJumpInside}
use Rattle.pam_findings.specs.host.Modules.{Modules}
use Rattle.pam_findings.specs.host.OtherAnswers.{HasOtherAnswer}
use Rattle.pam_findings.specs.host.StackProblems.{InStack, InWalk, MayAskHere}
use Rattle.pam_findings.specs.host.Verdicts.{Verdict}
use Rattle.pam_findings.specs.declared.host.problem.Problem.TheVariants as problems
use Rattle.pam_findings.specs.declared.host.problem.Spot.{Spot}

-- a host: its configuration, the position from which on its files are those that only the vendor folder has, the services that are
-- checked, and what is known of modules
pub record Host : Type 0 where
  pub folder : Folder
  pub vendor_start : ℕ
  pub services : List (List ℕ)
  pub modules : Modules

-- the service at a position
abbrev pub service_at : Host → ℕ → List ℕ
service_at host service = unwrap_or (slice_get host.services service) []

-- what the files say of a service and a kind
abbrev pub survey_at : Host → ℕ → Kind → SurveyText
survey_at host service kind = surveyed host.folder (service_at host service) kind

-- what is read of `other` for each of its stacks of a kind
abbrev pub beside_at : Host → Kind → SurveyText
beside_at host kind = beside host.folder host.services kind

-- the files that are read for a stack: those of its own walk, and those of the walk of `other`
abbrev pub reads_at : Host → ℕ → Kind → List ℕ
reads_at host service kind =
    files_read host.folder.form (length host.folder.entries) ((survey_at host service kind).reached ++ (beside_at host kind).reached)

-- a problem of a stack itself, of what the service's own rules leave to `other`, of its jumps into includes, or of the walk of
-- `other` beside it
abbrev pub InStackOf : Folder → Modules → SurveyText → ℕ → List ℕ → Kind → Verdict → Spot → Type 0
InStackOf folder modules other service name kind verdict spot =
    InStack folder modules service name kind (surveyed folder name kind) verdict spot
    ⊎ (HasOtherAnswer folder service name kind verdict spot ⊎ (HasJumpInside folder name kind spot ⊎ InWalk other.faults spot spot.problem))

-- a problem of a file that is read for a stack
abbrev pub InFile : Host → Spot → ℕ → Kind → Type 0
InFile host spot service kind =
    (file : ℕ) × (spot.file ≡ Some file) × Member file (reads_at host service kind) × FileHas host.folder host.vendor_start file spot.line spot.problem

-- the verdict on each service and kind
abbrev pub Verdicts : Type 0
Verdicts = ℕ → Kind → Verdict

-- S3: some stack may ask a module with its rule here
pub record IsAsked (host : Host) (verdicts : Verdicts) (spot : Spot) : Type 0 where
  pub service : ℕ
  pub within : service < length host.services
  pub kind : Kind
  pub may_ask : MayAskHere host.folder kind (survey_at host service kind) (verdicts service kind) spot

-- A STACK MEETS A PROBLEM: of a file that is read for it, or of the stack itself; but S3 only where no stack may ask the module
abbrev pub Meets : Host → Verdicts → Spot → ℕ → Kind → Type 0
Meets host verdicts spot service kind =
    (service < length host.services)
    × (InFile host spot service kind
    ⊎ InStackOf host.folder host.modules (beside_at host kind) service (service_at host service) kind (verdicts service kind) spot)
    × (spot.problem ≡ problems.NeverAsked → IsAsked host verdicts spot → ⊥)
