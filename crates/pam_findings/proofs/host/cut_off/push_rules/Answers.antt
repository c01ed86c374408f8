use Rattle.pam_findings.proofs.HostProofs.CutOff.{rules-all, rules-more, rules-none}
use Rattle.pam_findings.proofs.host.cut_off.push_rules.Goals as goal

pub loop-rule-init : goal.loop-rule-init
loop-rule-init c = rules-none c.args.kinds c.args.file c.args.rules.now c.args.asked.now.items

pub loop-rule-preserved : goal.loop-rule-preserved
loop-rule-preserved c =
    rules-more c.args.kinds c.args.file c.args.rules.now c.loop-rule.rule-index c.rule-item.result _ c.args.asked.now.items
    c.loop-rule.asked.items c.push_rule.new.asked.items c.loop-rule-test.true c.rule-item.is c.loop-rule.invariant c.in_ok-push_rule.ensures

pub returns : goal.returns
returns c =
    rules-all c.args.kinds c.args.file c.args.rules.now c.loop-rule.rule-index c.args.asked.now.items c.loop-rule.asked.items
    c.loop-rule-test.false c.loop-rule.invariant
