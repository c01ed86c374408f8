use Rattle.std.proofs.Common.{◌+◌, ◌∙◌, refl, sym}
use Rattle.pam_dispatch.specs.Runs.{answers_of}
use Rattle.pam_changes.specs.Steps.{is_shown}
use Rattle.pam_changes.proofs.Listing.{fails, passes}
use Rattle.pam_changes.proofs.steps.Answered.shown_new.Goals.{then-is_shown+in_ok-push, else-is_shown}
use Rattle.pam_changes.proofs.steps.Answered.shown_new.Goals as goal

pub loop-index-preserved : goal.loop-index-preserved
loop-index-preserved c =
    let self = c.args.self.now in
    let test = is_shown self.matching.now (answers_of self.old_codes.now) (answers_of self.new_codes.now) c.args.old_asked.now c.args.new_asked.now in
    let n = c.loop-index.index in
    elim c.if-is_shown.branch [
      | then-is_shown+in_ok-push w ↦
          rw w.shown-is (passes test n (n + 1) refl c.loop-index.shown.items _ c.loop-index.invariant
          (sym c.is_shown.ensures ∙ w.if-is_shown.true) w.in_ok-push.ensures.items)
      | else-is_shown w ↦
          rw w.shown-is (fails test n (n + 1) refl c.loop-index.shown.items _ c.loop-index.invariant
          (sym c.is_shown.ensures ∙ w.if-is_shown.false) refl)
    ]
