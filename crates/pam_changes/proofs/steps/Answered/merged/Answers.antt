use Rattle.pam_dispatch.specs.Runs.{answers_of}
use Rattle.pam_changes.proofs.Merging.{merged-end, merged-more}
use Rattle.pam_changes.proofs.steps.Answered.merged.Goals as goal

pub loop-number-preserved : goal.loop-number-preserved
loop-number-preserved c =
    let self = c.args.self.now in
    record {
      asked = merged-more self.matching.now (answers_of self.old_codes.now) (answers_of self.new_codes.now) c.args.alone.now
          c.args.shown.now c.loop-number.first _ c.loop-number.number-index _ c.loop-number.asked.items _ _
          c.loop-number-test.true c.one_with-one.ensures c.in_ok-first.ensures.asked c.in_ok-first.ensures.left c.loop-number.invariant.asked;
      within = c.in_ok-first.ensures.within;
    }

pub returns : goal.returns
returns c =
    let self = c.args.self.now in
    merged-end self.matching.now (answers_of self.old_codes.now) (answers_of self.new_codes.now) c.args.alone.now
    c.args.shown.now c.loop-number.first c.loop-number.number-index c.loop-number.asked.items _ _
    c.loop-number-test.false c.in_ok-push_rest.ensures c.loop-number.invariant.asked
