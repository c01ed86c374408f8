use Rattle.std.proofs.Common.{◌∙◌, arith, get_or, length, rules, sym}
use Rattle.pam_dispatch.specs.Runs.{answers_of}
use Rattle.pam_changes.specs.Steps.{as_old}
use Rattle.pam_changes.proofs.Merging.{before-end, before-more, before-stops, from-end, from-more, from-stops, nothing-more, one-more}
use Rattle.pam_changes.proofs.steps.Answered.push_before.Goals as goal

pub returns-then-number-limit-clause-asked : goal.returns-then-number-limit-clause-asked
returns-then-number-limit-clause-asked c =
    nothing-more (as_old (answers_of c.args.self.now.old_codes.now)) c.loop-index.asked.items _ _
    (before-stops c.args.limit c.args.alone.now c.loop-index.index c.loop-index-test.true c.if-number-limit.true) c.loop-index.invariant.asked

pub returns-then-number-limit-clause-left : goal.returns-then-number-limit-clause-left
returns-then-number-limit-clause-left c =
    sym (from-stops c.args.limit c.args.alone.now c.loop-index.index c.loop-index-test.true c.if-number-limit.true) ∙ c.loop-index.invariant.left

pub loop-index-preserved : goal.loop-index-preserved
loop-index-preserved c =
    let i = c.loop-index.index in
    let alone = c.args.alone.now in
    let f = as_old (answers_of c.args.self.now.old_codes.now) in
    record {
      asked = one-more f c.loop-index.asked.items c.push.new.self.items _ _ (get_or alone i 0) _ _
          (before-more c.args.limit alone i c.loop-index-test.true c.if-number-limit.false) c.in_ok-push.ensures.items
          (search rules) c.loop-index.invariant.asked;
      left = sym (from-more c.args.limit alone i c.loop-index-test.true c.if-number-limit.false) ∙ c.loop-index.invariant.left;
      within = omega (arith, c.loop-index-test.true);
    }

pub returns-clause-asked : goal.returns-clause-asked
returns-clause-asked c =
    nothing-more (as_old (answers_of c.args.self.now.old_codes.now)) c.loop-index.asked.items _ _
    (before-end c.args.limit c.args.alone.now c.loop-index.index c.loop-index-test.false) c.loop-index.invariant.asked

pub returns-clause-left : goal.returns-clause-left
returns-clause-left c =
    from-end c.args.limit c.args.alone.now c.loop-index.index (length c.args.alone.now) c.loop-index-test.false (omega arith) ∙ c.loop-index.invariant.left
