-- For private contracts and proofs alone: S12 of the rules of some files.
use Rattle.std.specs.Prelude.{ℕ, List, map, Some}
use Rattle.std.specs.List.{flat_map}
use Rattle.pam_conf.specs.Files.{Folder}
use Rattle.pam_conf.specs.Listed.{ListedText, listed}
use Rattle.pam_conf.specs.declared.rule.Kind.{Kind}
use Rattle.pam_findings.specs.host.Inside.{jumping}
use Rattle.pam_findings.specs.declared.host.problem.Problem.TheVariants as problems
use Rattle.pam_findings.specs.declared.host.problem.Spot.{Spot}

abbrev pub jump_spot : ListedText → Spot
jump_spot rule = record { file = Some rule.file; line = rule.line; problem = problems.JumpIntoInclude }

abbrev pub jumps_from : Folder → Kind → ℕ → List Spot
jumps_from folder kind file = map jump_spot (jumping (listed folder kind file))

abbrev pub jumps_from_all : Folder → Kind → List ℕ → List Spot
jumps_from_all folder kind files = flat_map (jumps_from folder kind) files
