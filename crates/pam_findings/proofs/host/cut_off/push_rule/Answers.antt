use Rattle.std.proofs.Common.{◌∙◌, sym}
use Rattle.pam_conf.specs.Rule.{rule_view}
use Rattle.pam_findings.proofs.HostProofs.CutOff.{of-rule}
use Rattle.pam_findings.proofs.host.cut_off.push_rule.Goals as goal

pub returns-in_ok-push : goal.returns-in_ok-push
returns-in_ok-push c =
    of-rule c.args.kinds c.args.file (rule_view c.args.rule.now) c.in-Some.kind c.in-Some.is (sym c.has_kind.ensures ∙ c.if-has_kind.true)
    c.args.asked.now.items c.push.new.self.items c.in_ok-push.ensures.items
