-- the rules that are left call the module as all do
use Rattle.std.proofs.Common.{◌≡◌, drop, map}
use Rattle.std.specs.List.{list_any}
use Rattle.pam_conf.specs.Rule.{rule_view}
use Rattle.pam_report.specs.ComparedKeys.{calls}
use Rattle.pam_report.proofs.report.compared_keys.some_calls.Given as goal

abbrev pub invariant-loop-rule : goal.invariant-loop-rule
invariant-loop-rule l = list_any (calls l.name) (map rule_view (drop l.rule-index l.rules)) ≡ list_any (calls l.name) (map rule_view l.rules)
