-- The findings of a host.
use Rattle.std.specs.Prelude.{◌≡◌, ◌⊎◌, ℕ, ◌<◌, true, false, List, All, MatchOption, length, slice_index_or, Option, Some, None}
use Rattle.std.specs.BTreeMap.{BTreeMap, IsOrdered, get}
use Rattle.pam_conf.specs.Files.{Folder}
use Rattle.pam_conf.specs.declared.rule.Kind.{Kind}
use Rattle.pam_conf.specs.declared.rule.Kind.TheVariants.{Auth}
use Rattle.pam_facts.specs.Rows.{Row}
use Rattle.pam_findings.specs.host.FolderProblems.{is_of_folder}
use Rattle.pam_findings.specs.host.Host.{Host, Meets, Verdicts, service_at}
use Rattle.pam_findings.specs.host.Met.{AreMet, IsMetByNone}
use Rattle.pam_findings.specs.host.Problems.{compare_places, place_of}
use Rattle.pam_conf.specs.Services.{checked_services}
use Rattle.pam_findings.specs.host.StackProblems.{HasWayIn}
use Rattle.pam_findings.specs.host.Verdicts.{IsVerdict}
use Rattle.pam_findings.specs.declared.host.problem.Place.{Place}
use Rattle.pam_findings.specs.declared.host.problem.Spot.{Spot}
use Rattle.pam_findings.specs.declared.host.report.Finding.{Finding}
use Rattle.pam_findings.specs.declared.host.way_in.WayIn.{WayIn}

-- what is found of a problem that stacks meet
pub record IsMetFinding (MeetsIt : ℕ → Kind → Type 0) (spot : Spot) (finding : Finding) : Type 0 where
  pub problem : finding.problem ≡ spot.problem
  pub is_met : MatchOption finding.met ⊥ (AreMet MeetsIt)

-- what is found of a problem that stacks may meet, or of the folder itself
abbrev pub IsFound : Host → Verdicts → List (List ℕ) → Spot → Option Finding → Type 0
IsFound host verdicts named spot None = IsMetByNone (Meets host verdicts spot) × (is_of_folder host.folder named spot ≡ false)
IsFound host verdicts named spot (Some finding) =
    IsMetFinding (Meets host verdicts spot) spot finding
    ⊎ ((is_of_folder host.folder named spot ≡ true) × (finding ≡ record { problem = spot.problem; met = None }))

-- each finding is at the place of its problem
abbrev pub IsPlaced : Place × Finding → Type 0
IsPlaced entry = entry.0 ≡ place_of record { file = entry.0.file; line = entry.0.line; problem = entry.1.problem }

-- a verdict on each service and kind
abbrev pub AreVerdicts : Host → Verdicts → Type 0
AreVerdicts host verdicts =
    (service : ℕ) (kind : Kind) → service < length host.services →
    IsVerdict host.folder host.modules (service_at host service) kind (verdicts service kind)

-- for each service the first way into its `auth` stack, if there is one
pub record AreWaysIn (host : Host) (verdicts : Verdicts) (ways : List (Option WayIn)) : Type 0 where
  pub count : length ways ≡ length host.services
  pub each : (service : ℕ) → service < length host.services → HasWayIn (verdicts service Auth) (slice_index_or ways service None)

abbrev pub host_of : Folder → ℕ → List (List ℕ) → List Row → Option (List (List ℕ)) → Option (List (List ℕ)) → Host
host_of folder vendor_start named facts there files = record {
  folder = folder;
  vendor_start = vendor_start;
  services = checked_services folder named;
  modules = record { facts = facts; there = there; files = files };
}

-- THE REPORT on a host: the findings in the order of their places, each once, are exactly those of all problems at all lines
pub record IsReportOn (host : Host) (named : List (List ℕ)) (found : BTreeMap Place Finding) (ways : List (Option WayIn)) : Type 0 where
  pub verdicts : Verdicts
  pub are_verdicts : AreVerdicts host verdicts
  pub ordered : IsOrdered compare_places found
  pub placed : All IsPlaced found.entries
  pub findings : (spot : Spot) → IsFound host verdicts named spot (get compare_places found (place_of spot))
  pub ways_in : AreWaysIn host verdicts ways

abbrev pub IsReport : Folder → ℕ → List (List ℕ) → List Row → Option (List (List ℕ)) → Option (List (List ℕ)) → BTreeMap Place Finding
    → List (Option WayIn) → Type 0
IsReport folder vendor_start named facts there files found ways = IsReportOn (host_of folder vendor_start named facts there files) named found ways
