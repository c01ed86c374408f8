use Rattle.std.proofs.Common.{refl}
use Rattle.pam_findings.proofs.HostProofs.Targets.{rules-all, rules-more}
use Rattle.pam_findings.proofs.host.targets.add_targets.Goals as goal

pub loop-rule-init : goal.loop-rule-init
loop-rule-init c = λ name. refl

pub loop-rule-preserved : goal.loop-rule-preserved
loop-rule-preserved c = λ name.
    rules-more name c.args.rules.now c.loop-rule.rule-index c.rule-item.result _ c.loop-rule.names c.add_target.new.names _
    c.loop-rule-test.true c.rule-item.is c.in_ok-add_target.ensures (c.loop-rule.invariant name)

pub returns : goal.returns
returns c = λ name.
    rules-all name c.args.rules.now c.loop-rule.rule-index c.loop-rule.names _ c.loop-rule-test.false (c.loop-rule.invariant name)
