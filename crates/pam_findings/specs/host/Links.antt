-- The files of a folder that are links which lead out of it: S27, and the ways in that tell of their modules.
use Rattle.std.specs.Prelude.{◌≡◌, ℕ, Bool, true, false, if◌then◌else◌, All, List, slice_index_or, Option, Some, None}
use Rattle.std.specs.BTreeMap.{BTreeMap, IsOrdered, get}
use Rattle.std.specs.List.{list_any}
use Rattle.std.specs.Option.{option_map_or}
use Rattle.pam_conf.specs.Stack.{Items, module_at}
use Rattle.pam_findings.specs.host.Problems.{compare_places, place_of}
use Rattle.pam_findings.specs.host.Report.{IsPlaced}
use Rattle.pam_findings.specs.declared.host.problem.Place.{Place}
use Rattle.pam_findings.specs.declared.host.problem.Problem.TheVariants as problems
use Rattle.pam_findings.specs.declared.host.problem.Spot.{Spot}
use Rattle.pam_findings.specs.declared.host.report.Finding.{Finding}
use Rattle.pam_findings.specs.declared.host.way_in.WayIn.{WayIn}

-- the file at a position is such a link, by what is told of each position
abbrev pub is_outside : List Bool → Option ℕ → Bool
is_outside outside None = false
is_outside outside (Some file) = slice_index_or outside file false

-- S27 at such a file
pub record IsLinkOutside (outside : List Bool) (spot : Spot) : Type 0 where
  pub is_outside : is_outside outside spot.file ≡ true
  pub line : spot.line ≡ 0
  pub problem : spot.problem ≡ problems.LinkOutside

abbrev pub link_finding : Finding
link_finding = record { problem = problems.LinkOutside; met = None }

-- THE FINDINGS WITH S27: just these files have it, met by no stack, and everything else is found as before
pub record WithLinks (outside : List Bool) (old new : BTreeMap Place Finding) : Type 0 where
  pub ordered : IsOrdered compare_places new
  pub placed : All IsPlaced old.entries → All IsPlaced new.entries
  pub noted : (spot : Spot) → IsLinkOutside outside spot → get compare_places new (place_of spot) ≡ Some link_finding
  pub others : (spot : Spot) → (IsLinkOutside outside spot → ⊥) → get compare_places new (place_of spot) ≡ get compare_places old (place_of spot)

-- the rule of the module with this number is in such a file
abbrev pub stands_outside : List Bool → Items → ℕ → Bool
stands_outside outside items number = option_map_or (λ m. is_outside outside (Some m.file)) (module_at number items) false

abbrev pub asks_outside : List Bool → WayIn → Bool
asks_outside outside way = list_any (λ answer. stands_outside outside way.stack answer.number) way.answers.items

-- A WAY IN THAT IS REPORTED asks no module whose rule is in such a file
abbrev pub told_way : List Bool → Option WayIn → Option WayIn
told_way outside None = None
told_way outside (Some way) = if asks_outside outside way then None else Some way
