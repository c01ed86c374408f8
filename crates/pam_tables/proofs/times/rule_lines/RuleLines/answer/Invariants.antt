use Rattle.std.proofs.Common.{◌≡◌, drop, true}
use Rattle.pam_tables.specs.times.Login.{login_view}
use Rattle.pam_tables.specs.times.RuleLines.{are_rules, rules_at}
use Rattle.pam_tables.specs.times.Stored.{stored}
use Rattle.pam_tables.specs.times.Times.{answer_at}
use Rattle.pam_tables.proofs.times.rule_lines.RuleLines.answer.Given as goal

abbrev pub invariant-loop-line : goal.invariant-loop-line
invariant-loop-line l = record {
  same : answer_at (rules_at l.rest (drop l.line-index l.self.lines.items)) (login_view l.login) l.time.day l.time.minute
      ≡ answer_at (stored l.self) (login_view l.login) l.time.day l.time.minute;
  sound : are_rules l.rest (drop l.line-index l.self.lines.items) ≡ true;
}
