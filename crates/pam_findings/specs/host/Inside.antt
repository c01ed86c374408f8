-- S12: a jump that lands inside what an include brought in: pam.conf(5), on N (as an action) and on include.
use Rattle.std.specs.Prelude.{◌≡◌, ℕ, ◌==◌, ◌&&◌, ◌||◌, Bool, false, not, List, [], ◌∷◌, drop, slice_get, if◌then◌else◌, Some}
use Rattle.std.specs.List.{list_any}
use Rattle.std.specs.Option.{option_map_or}
use Rattle.pam_codes.specs.Code.{all_codes}
use Rattle.pam_codes.specs.declared.action.Action.{Action}
use Rattle.pam_codes.specs.declared.action.Action.TheVariants.{Jump}
use Rattle.pam_conf.specs.Files.{Folder}
use Rattle.pam_conf.specs.Laws.{IsSound}
use Rattle.pam_conf.specs.Listed.{ListedText, listed}
use Rattle.pam_conf.specs.Survey.{surveyed}
use Rattle.pam_conf.specs.declared.rule.Form.TheVariants.{Dir}
use Rattle.pam_conf.specs.declared.rule.Kind.{Kind}
use Rattle.pam_conf.specs.declared.walk.Location.{Location}
use Rattle.pam_dispatch.specs.State.{action_of}
use Rattle.pam_text.specs.Members.{Member}
use Rattle.pam_findings.specs.declared.host.problem.Problem.TheVariants as problems
use Rattle.pam_findings.specs.declared.host.problem.Spot.{Spot}

abbrev pub is_same : Location → Location → Bool
is_same one other = (one.file == other.file) && (one.line == other.line)

-- the first of these includes is this one
abbrev pub begins_by : Location → List Location → Bool
begins_by include [] = false
begins_by include (own ∷ owns) = is_same own include

-- by the includes of three items, the outermost first: the first two came in by an include by which the third did not
abbrev pub share_other : List Location → List Location → List Location → Bool
share_other [] afters own = false
share_other (before ∷ befores) afters own =
    begins_by before afters && (not (begins_by before own) || share_other befores (drop 1 afters) (drop 1 own))

-- an item and the one before it are inside an include that the jump's own rule is not in
abbrev pub is_inside : ListedText → ListedText → ListedText → Bool
is_inside own before after = share_other before.includes after.includes own.includes

-- the item after those that a rule jumps over, in the rest of its list, is there, and inside such an include
abbrev pub lands_inside : ListedText → List ListedText → ℕ → Bool
lands_inside own rest over =
    option_map_or (λ after. option_map_or (λ before. is_inside own before after) (slice_get (own ∷ rest) over) false) (slice_get rest over) false

abbrev pub action_lands : ListedText → List ListedText → Action → Bool
action_lands own rest (Jump over) = lands_inside own rest over
action_lands own rest action = false

-- for some code
abbrev pub control_lands : ListedText → List ListedText → List Action → Bool
control_lands own rest control = list_any (λ code. action_lands own rest (action_of control code)) all_codes

abbrev pub item_lands : ListedText → List ListedText → Bool
item_lands own rest = option_map_or (control_lands own rest) own.control false

-- the items of a list that jump so
abbrev pub jumping : List ListedText → List ListedText
jumping [] = []
jumping (own ∷ rest) = if item_lands own rest then own ∷ jumping rest else jumping rest

-- S12, at the line of the jump's rule: in the list of a file that the walk of an accepted stack reaches. pam.conf has no includes
pub record HasJumpInside (folder : Folder) (name : List ℕ) (kind : Kind) (spot : Spot) : Type 0 where
  pub problem : spot.problem ≡ problems.JumpIntoInclude
  pub form : folder.form ≡ Dir
  pub sound : IsSound folder (surveyed folder name kind)
  pub start : ℕ
  pub reached : Member start (surveyed folder name kind).reached
  pub rule : ListedText
  pub jumps : Member rule (jumping (listed folder kind start))
  pub file : spot.file ≡ Some rule.file
  pub line : spot.line ≡ rule.line
