use Rattle.std.proofs.Common.{◌≡◌, find}
use Rattle.pam_explain.specs.Explanations.{explanation_of, has_number}
use Rattle.pam_explain.proofs.table.explain.Given as goal

abbrev pub invariant-loop-explanation : goal.invariant-loop-explanation
invariant-loop-explanation l =
    (goal.iterator-loop-explanation).can_next l.explanation-iterator ×
    (goal.iterator-loop-explanation).is_finite l.explanation-iterator ×
    (find (has_number l.number) l.explanation-iterator ≡ explanation_of l.number)
