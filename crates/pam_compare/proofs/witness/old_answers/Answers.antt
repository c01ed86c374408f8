use Rattle.pam_compare.proofs.Witnessing.{answers-none, answers-push}
use Rattle.pam_compare.proofs.witness.old_answers.Goals as goal

pub loop-index-init : goal.loop-index-init
loop-index-init c = answers-none _ _ c.new-codes.ensures.items

pub loop-index-preserved : goal.loop-index-preserved
loop-index-preserved c = answers-push _ _ _ _ _ c.loop-index.invariant c.in_ok-push.ensures.items c.answer_on.ensures
