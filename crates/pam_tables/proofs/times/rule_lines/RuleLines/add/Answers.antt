use Rattle.std.proofs.Common.{Ok, ap, sym}
use Rattle.pam_tables.specs.times.Stored.{stored}
use Rattle.pam_tables.proofs.TimesProofs.RuleSteps.{line_told, rule_there}
use Rattle.pam_tables.proofs.TimesProofs.StoredSteps.{are_added, rules_added}
use Rattle.pam_tables.proofs.times.rule_lines.RuleLines.add.Goals as goal

pub returns-in-Err-clause-rules : goal.returns-in-Err-clause-rules
returns-in-Err-clause-rules c = rw c.at.ensures (line_told (stored c.args.self.now) c.args.line.number _ c.in-Err.fault (c.in-Err.ensures c.args.line.number))

pub returns-in_ok-push-clause-rules : goal.returns-in_ok-push-clause-rules
returns-in_ok-push-clause-rules c =
    let r = c.args.self.now in
    let p = rule_there _ c.in-Ok.has_rule (c.in-Ok.ensures c.args.line.number) c.if-has_rule.true in
    rw (c.in_ok-extend_from_slice.ensures.items, c.in_ok-push.ensures.items)
    (rw p.1 (sym (ap Ok (rules_added c.args.line.number c.args.line.bytes.now p.0 p.1 r.text.items r.lines.items c.requires))))

pub returns-in_ok-push-clause-stored : goal.returns-in_ok-push-clause-stored
returns-in_ok-push-clause-stored c =
    let r = c.args.self.now in
    let p = rule_there _ c.in-Ok.has_rule (c.in-Ok.ensures c.args.line.number) c.if-has_rule.true in
    rw (c.in_ok-extend_from_slice.ensures.items, c.in_ok-push.ensures.items)
    (are_added c.args.line.number c.args.line.bytes.now p.0 p.1 r.text.items r.lines.items c.requires)
