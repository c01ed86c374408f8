-- the first explanation of the name that is left is the first of all
use Rattle.std.proofs.Common.{◌≡◌, find}
use Rattle.pam_explain.specs.Explanations.{explanations}
use Rattle.pam_report.specs.Mistakes.{has_name}
use Rattle.pam_report.proofs.fault.naming.number_of_name.Given as goal

abbrev pub invariant-loop-explanation : goal.invariant-loop-explanation
invariant-loop-explanation l =
    (goal.iterator-loop-explanation).can_next l.explanation-iterator ×
    (goal.iterator-loop-explanation).is_finite l.explanation-iterator ×
    (find (has_name l.name) l.explanation-iterator ≡ find (has_name l.name) explanations)
