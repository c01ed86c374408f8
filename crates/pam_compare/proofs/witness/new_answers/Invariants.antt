use Rattle.pam_compare.specs.Names.{by_name}
use Rattle.pam_compare.specs.inner.Naming.{by_code}
use Rattle.pam_compare.specs.inner.Trails.{AreAnswers, answers_on}
use Rattle.pam_compare.proofs.witness.new_answers.Given as goal

abbrev pub invariant-loop-index : goal.invariant-loop-index
invariant-loop-index l = AreAnswers l.index (by_name l.names (answers_on (by_code l.usual) l.trail)) l.codes.items
