use Rattle.std.proofs.Common.{◌∙◌, ap}
use Rattle.pam_compare.specs.inner.Naming.{by_code}
use Rattle.pam_compare.specs.inner.Trails.{answers_on}
use Rattle.pam_compare.proofs.Witnessing.{answers-none, answers-push}
use Rattle.pam_compare.proofs.witness.new_answers.Goals as goal

pub loop-index-init : goal.loop-index-init
loop-index-init c = answers-none _ _ c.new-codes.ensures.items

pub loop-index-preserved : goal.loop-index-preserved
loop-index-preserved c =
    answers-push _ _ _ _ _ c.loop-index.invariant c.in_ok-push.ensures.items
    (c.answer_on.ensures ∙ ap (answers_on (by_code c.args.usual.now) c.args.trail.now) c.value_at.ensures)
