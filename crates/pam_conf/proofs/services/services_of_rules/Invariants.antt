use Rattle.std.proofs.Common.{◌≡◌, drop, filter_map, fold, map}
use Rattle.pam_conf.specs.Rule.{rule_view}
use Rattle.pam_conf.specs.Services.{each_once, with_name}
use Rattle.pam_conf.proofs.services.services_of_rules.Given as goal

-- the names, and those that the rules name which are left
abbrev pub invariant-loop-rule : goal.invariant-loop-rule
invariant-loop-rule l =
    fold with_name l.names (filter_map (λ rule. rule.service) (map rule_view (drop l.rule-index l.rules)))
    ≡ each_once (filter_map (λ rule. rule.service) (map rule_view l.rules))
