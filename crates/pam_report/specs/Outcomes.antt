-- The answer to `outcomes`: in how many ways a stack comes to each decision (pam.conf(5), DESCRIPTION), and the first of them.
use Rattle.std.specs.Prelude.{◌≡◌, ◌⊎◌, ℕ, List, [], ◌∷◌, length, Result, Ok, Err}
use Rattle.std.specs.List.{flat_map}
use Rattle.pam_codes.specs.Code.{all_codes}
use Rattle.pam_conf.specs.Stack.{Items, module_count}
use Rattle.pam_conf.specs.declared.rule.Kind.{Kind}
use Rattle.pam_graph.specs.Goals.{fit, meeting}
use Rattle.pam_graph.specs.declared.goal.Goal.TheVariants.{Decides}
use Rattle.pam_paths.specs.Listing.{Allowance, IsListing}
use Rattle.pam_paths.specs.Paths.{PathValue, path_through}
use Rattle.pam_report.specs.KnownStack.{IsAnswerFrom, KnownItems}
use Rattle.pam_report.specs.Reply.{Answer, Outcome, OutcomesValue}
use Rattle.pam_report.specs.Reply.{Outcomes as OutcomesReply}
use Rattle.pam_report.specs.TooLarge.{IsTooLarge}
use Rattle.pam_report.specs.declared.fault.Fault.{Fault}
use Rattle.pam_report.specs.declared.fault.Fault.TheVariants as faults

-- the outcome of the paths that end in a decision, if there are any. A number of 2^128 or more is `None`
abbrev pub outcome_of : ℕ → List PathValue → List Outcome
outcome_of code [] = []
outcome_of code (path ∷ paths) = record { decision = code; count = fit (length (path ∷ paths)); first = path } ∷ []

abbrev pub outcome_among : List PathValue → ℕ → List Outcome
outcome_among paths code = outcome_of code (meeting (Decides (code ∷ [])) paths)

-- THE OUTCOMES of the paths of a listing, in the order of codes
abbrev pub outcomes : List PathValue → List Outcome
outcomes paths = flat_map (outcome_among paths) all_codes

-- those of a stack for a kind, with the number of all paths
abbrev pub outcomes_value : List ℕ → Kind → Items → List PathValue → OutcomesValue
outcomes_value service kind items paths = record {
  service = service;
  kind = kind;
  items = items;
  found = outcomes paths;
  total = fit (length paths);
}

-- the answer, if these codes are allowed: the outcomes, or that the run comes to too many places
abbrev pub IsOutcomesOf : List ℕ → Kind → Items → Allowance → Answer → Type 0
IsOutcomesOf service kind items allows answer =
    (IsTooLarge items allows × (answer ≡ Err faults.TooManyStates))
    ⊎ ((paths : List PathValue) × IsListing allows (module_count items) (path_through items) paths
    × (answer ≡ Ok (OutcomesReply (outcomes_value service kind items paths))))

-- THE ANSWER to `outcomes`: of the known stack, the outcomes, or the first fault
abbrev pub IsOutcomes : List ℕ → Kind → Result KnownItems Fault → Answer → Type 0
IsOutcomes service kind = IsAnswerFrom (IsOutcomesOf service kind)
