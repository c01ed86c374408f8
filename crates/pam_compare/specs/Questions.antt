-- How many answers two stacks take that run side by side: the comparison of two configurations.
use Rattle.std.specs.Prelude.{◌≡◌, ◌==◌, ℕ, zero, suc, if◌then◌else◌, List, [], ◌∷◌, Option, Some, None, slice_index_or}
use Rattle.pam_codes.specs.Code.{all_codes}
use Rattle.pam_dispatch.specs.Runs.{Assignment, Runs, asked_module}
use Rattle.pam_compare.specs.declared.held.HeldAnswer.{HeldAnswer}
use Rattle.pam_compare.specs.declared.turn.Turn.{Turn}
use Rattle.pam_compare.specs.Walks.{Order, new_after, old_after, turn_code, turn_of}

-- both runs end after this number of answers, where tied modules that are both next answer at once
unfoldable pub EndsAfter : List ℕ → Order → Assignment → Assignment → ℕ → Runs → Runs → Type 0
EndsAfter names old_first a b zero left right = turn_of names old_first (asked_module left) (asked_module right) ≡ None
EndsAfter names old_first a b (suc n) left right =
    (turn : Turn) × (turn_of names old_first (asked_module left) (asked_module right) ≡ Some turn)
    × EndsAfter names old_first a b n (old_after turn left (turn_code turn a b)) (new_after turn right (turn_code turn a b))

-- the codes among which the answer of a name is chosen, after answers of these classes, the latest first: those of its latest class,
-- or all that are possible for it if it has not answered
unfoldable pub choices : List (List ℕ) → List HeldAnswer → ℕ → List ℕ
choices possible [] name = slice_index_or possible name all_codes
choices possible (answer ∷ answers) name = if answer.name == name then answer.codes else choices possible answers name
