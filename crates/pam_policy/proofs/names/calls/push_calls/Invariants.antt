use Rattle.std.proofs.Common.{◌≡◌, ◌++◌, drop, filter_map, map}
use Rattle.pam_conf.specs.Rule.{rule_view}
use Rattle.pam_policy.specs.names.Calls.{called_by}
use Rattle.pam_policy.specs.names.Host.{call_view}
use Rattle.pam_policy.proofs.names.calls.push_calls.Given as goal

-- the calls so far, and those of the rules that are left
abbrev pub invariant-loop-rule : goal.invariant-loop-rule
invariant-loop-rule l =
    map call_view l.calls.items ++ filter_map (λ rule. called_by rule.body) (map rule_view (drop l.rule-index l.rules))
    ≡ map call_view l.initial.calls.items ++ filter_map (λ rule. called_by rule.body) (map rule_view l.rules)
