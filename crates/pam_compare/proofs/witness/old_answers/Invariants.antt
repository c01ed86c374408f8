use Rattle.pam_compare.specs.inner.Naming.{by_code}
use Rattle.pam_compare.specs.inner.Trails.{AreAnswers, answers_on}
use Rattle.pam_compare.proofs.witness.old_answers.Given as goal

abbrev pub invariant-loop-index : goal.invariant-loop-index
invariant-loop-index l = AreAnswers l.index (answers_on (by_code l.usual) l.trail) l.codes.items
