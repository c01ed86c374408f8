use Rattle.std.proofs.Common.{◌∙◌}
use Rattle.pam_released.proofs.Pushing.{merge_end, merge_step}
use Rattle.pam_released.proofs.survey.merged.Goals as goal

pub loop-finding-preserved : goal.loop-finding-preserved
loop-finding-preserved c =
    merge_step c.args.findings.now c.loop-finding.rest.now c.loop-finding.all.items c.extend_from_slice.new.self.items c.push.new.self.items
    c.split_at.result.0.now c.split_at.result.1.now c.loop-finding.finding-index c.count_before.result _ c.loop-finding-test.true
    c.count_before.ensures.value c.split_at.ensures.front c.split_at.ensures.back c.in_ok-extend_from_slice.ensures.items c.in_ok-push.ensures.items
    ∙ c.loop-finding.invariant

pub returns : goal.returns
returns c =
    merge_end c.args.findings.now c.loop-finding.rest.now c.loop-finding.all.items _ c.extend_from_slice-2.new.self.items c.loop-finding.finding-index
    c.loop-finding-test.false c.in_ok-extend_from_slice-2.ensures.items c.loop-finding.invariant
