use Rattle.std.proofs.Common.{◌≡◌, ◌++◌, drop, map}
use Rattle.pam_conf.specs.inner.Kept.{kept_view}
use Rattle.pam_conf.specs.Rule.{rule_view}
use Rattle.pam_conf.proofs.kept.whole_rules.Given as goal

abbrev pub invariant-loop-rule : goal.invariant-loop-rule
invariant-loop-rule l = map rule_view l.rules.items ++ map kept_view (drop l.rule-index l.kept) ≡ map kept_view l.kept
