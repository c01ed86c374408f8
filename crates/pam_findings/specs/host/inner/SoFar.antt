-- For private contracts and proofs alone: what is found after some stacks.
use Rattle.std.specs.Prelude.{◌≡◌, ◌↔◌, ℕ, ◌<◌, ◌==◌, ◌&&◌, List, length, slice_index_or, if◌then◌else◌, Option, Some, None}
use Rattle.pam_conf.specs.Files.{Folder}
use Rattle.pam_conf.specs.declared.rule.Kind.{Kind}
use Rattle.pam_conf.specs.declared.rule.Kind.TheVariants.{Auth}
use Rattle.pam_text.specs.Members.{Member}
use Rattle.pam_findings.specs.host.Host.{Host, InStackOf, Verdicts, beside_at, reads_at, service_at, survey_at}
use Rattle.pam_findings.specs.host.inner.Looked.{Asks}
use Rattle.pam_findings.specs.host.inner.Meeting.{MetSoFar}
use Rattle.pam_findings.specs.host.Met.{IsMetByNone}
use Rattle.pam_findings.specs.host.Modules.{Modules}
use Rattle.pam_findings.specs.host.Problems.{number_of_kind}
use Rattle.pam_findings.specs.host.Report.{IsMetFinding}
use Rattle.pam_findings.specs.host.StackProblems.{HasWayIn, IsCutOff}
use Rattle.pam_findings.specs.host.inner.Table.{ArePlaced, finding_at}
use Rattle.pam_findings.specs.host.Verdicts.{IsVerdict, Verdict}
use Rattle.pam_findings.specs.declared.host.problem.Spot.{Spot}
use Rattle.pam_findings.specs.declared.host.report.Finding.{Finding}
use Rattle.pam_findings.specs.declared.host.stacks.Found.{Found}
use Rattle.pam_findings.specs.declared.host.way_in.WayIn.{WayIn}

abbrev pub host_with : Folder → ℕ → List (List ℕ) → Modules → Host
host_with folder vendor_start services modules =
    record { folder = folder; vendor_start = vendor_start; services = services; modules = modules }

-- what is found of a problem that some stacks meet
abbrev pub Shows : (ℕ → Kind → Type 0) → Spot → Option Finding → Type 0
Shows MeetsIt spot None = IsMetByNone MeetsIt
Shows MeetsIt spot (Some finding) = IsMetFinding MeetsIt spot finding

-- a stack has a problem itself
abbrev pub InStackAt : Host → Verdicts → Spot → ℕ → Kind → Type 0
InStackAt host verdicts spot service kind =
    InStackOf host.folder host.modules (beside_at host kind) service (service_at host service) kind (verdicts service kind) spot

-- a stack may ask a module with its rule here
abbrev pub AsksAt : Host → Verdicts → Spot → ℕ → Kind → Type 0
AsksAt host verdicts spot service kind = Asks (survey_at host service kind).items (verdicts service kind) spot

-- one more verdict
abbrev pub with_verdict : Verdicts → ℕ → Kind → Verdict → Verdicts
with_verdict verdicts service kind verdict s k =
    if (s == service) && (number_of_kind k == number_of_kind kind) then verdict else verdicts s k

-- what is found after the stacks that are taken
pub record Taken (host : Host) (IsTaken : ℕ → Kind → Type 0) (found : Found) (ways : List (Option WayIn)) : Type 0 where
  pub verdicts : Verdicts
  pub are : (service : ℕ) (kind : Kind) → IsTaken service kind →
      IsVerdict host.folder host.modules (service_at host service) kind (verdicts service kind)
  pub shows : (spot : Spot) → Shows (λ service kind. IsTaken service kind × InStackAt host verdicts spot service kind) spot (finding_at found.table spot)
  pub asks : (spot : Spot) → Member spot found.asked.items ↔ ((service : ℕ) × (kind : Kind) × IsTaken service kind × AsksAt host verdicts spot service kind)
  pub reads : (file : ℕ) → file < length host.folder.entries →
      MetSoFar (λ service kind. IsTaken service kind × Member file (reads_at host service kind)) (slice_index_or found.readers.items file None)
  pub cuts : MetSoFar (λ service kind. IsTaken service kind × IsCutOff (survey_at host service kind)) found.cut_off
  pub placed : ArePlaced found.table
  pub readers : length found.readers.items ≡ length host.folder.entries
  pub ways_in : (service : ℕ) → IsTaken service Auth → HasWayIn (verdicts service Auth) (slice_index_or ways service None)

-- what is found after the stacks of the first services
pub record SoFar (host : Host) (services : ℕ) (found : Found) (ways : List (Option WayIn)) : Type 0 where
  pub taken : Taken host (λ service kind. service < services) found ways
  pub count : length ways ≡ services
