-- For private contracts and proofs alone: the problems of files themselves.
use Rattle.std.specs.Prelude.{◌≡◌, ℕ, ◌<◌, List, [], ◌∷◌, if◌then◌else◌, is_none, slice_index_or, Option, Some, None}
use Rattle.std.specs.List.{flat_map}
use Rattle.std.specs.Option.{option_map_or}
use Rattle.pam_conf.specs.FileRules.{good_rules}
use Rattle.pam_conf.specs.Files.{Folder, bytes_at}
use Rattle.pam_conf.specs.Rule.{RuleText}
use Rattle.pam_conf.specs.declared.error.RuleFault.{RuleFault}
use Rattle.pam_released.specs.declared.finding.Finding.{Finding as Difference}
use Rattle.pam_findings.specs.host.FileProblems.{FileHas, includes_vendor}
use Rattle.pam_findings.specs.declared.host.met.Met.{Met}
use Rattle.pam_findings.specs.declared.host.problem.Problem.TheVariants as problems
use Rattle.pam_findings.specs.declared.host.problem.Spot.{Spot}
use Rattle.pam_findings.specs.declared.host.report.Finding.{Finding}

abbrev pub fault_spot : ℕ → RuleFault → Spot
fault_spot file fault = record { file = Some file; line = fault.line; problem = problems.Fault fault.kind }

abbrev pub released_spot : ℕ → Difference → Spot
released_spot file found = record { file = Some file; line = found.line; problem = problems.Released found.difference }

abbrev pub vendor_spot : ℕ → RuleText → Spot
vendor_spot file rule =
    record { file = Some file; line = rule.line; problem = problems.IncludedFromVendor (is_none rule.kind) }

-- L10 of a rule
abbrev pub vendor_spots : Folder → ℕ → ℕ → RuleText → List Spot
vendor_spots folder vendor_start file rule = if includes_vendor folder vendor_start rule.body then vendor_spot file rule ∷ [] else []

-- L10 of the rules of a file
abbrev pub vendor_spots_in : Folder → ℕ → ℕ → List Spot
vendor_spots_in folder vendor_start file =
    option_map_or (λ bytes. flat_map (vendor_spots folder vendor_start file) (good_rules folder.form bytes)) (bytes_at file folder.entries) []

-- a problem of this file
abbrev pub IsOwn : Folder → ℕ → ℕ → Spot → Type 0
IsOwn folder vendor_start file spot = (spot.file ≡ Some file) × FileHas folder vendor_start file spot.line spot.problem

-- a problem of one of the first files, which stacks read
pub record IsRead (folder : Folder) (vendor_start : ℕ) (readers : List (Option Met)) (files : ℕ) (spot : Spot) : Type 0 where
  pub position : ℕ
  pub within : position < files
  pub met : Met
  pub reads : slice_index_or readers position None ≡ Some met
  pub own : IsOwn folder vendor_start position spot

-- the stacks that read a file
abbrev pub met_in : List (Option Met) → Option ℕ → Option Met
met_in readers None = None
met_in readers (Some file) = slice_index_or readers file None

-- the finding that those stacks meet which read the file, whatever was found before
abbrev pub read_by : List (Option Met) → Spot → Option Finding → Finding
read_by readers spot old = record { problem = spot.problem; met = met_in readers spot.file }
