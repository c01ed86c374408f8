-- The answers that a run does not tell apart: pam.conf(5), the actions of a control.
use Rattle.std.specs.Prelude.{◌≡◌, ℕ, ◌==◌, Bool, ◌&&◌, List, [], ◌∷◌}
use Rattle.pam_codes.specs.Set.{codes_where}
use Rattle.pam_dispatch.specs.declared.step.Outcome.{Outcome}
use Rattle.pam_dispatch.specs.Runs.{Ask, outcome_of}
use Rattle.pam_dispatch.specs.State.{impression_number}

-- two outcomes are the same: the same new state, and the same number of items left in the module's own list
unfoldable pub same_outcome : Outcome → Outcome → Bool
same_outcome o p =
    ((impression_number o.state.impression == impression_number p.state.impression) && (o.state.status == p.state.status))
    && (o.left == p.left)

-- the codes that lead to an outcome
unfoldable pub class_at : Ask → Outcome → List ℕ
class_at ask o = codes_where (λ d. same_outcome o (outcome_of ask d))

-- THE CLASS of a code for a module that is asked: all codes alike to it, which are those with the same outcome
abbrev pub class_of : Ask → ℕ → List ℕ
class_of ask code = class_at ask (outcome_of ask code)

-- the least code of a class
abbrev pub least : List ℕ → ℕ
least [] = 0
least (code ∷ codes) = code
