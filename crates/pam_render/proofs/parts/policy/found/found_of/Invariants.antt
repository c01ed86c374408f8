-- the findings of the rules so far are told
use Rattle.std.proofs.Common.{◌≡◌, map, take}
use Rattle.std.specs.List.{flat_map}
use Rattle.pam_render.specs.parts.Policy.{found_of_rule}
use Rattle.pam_render.specs.parts.PolicyView.{host_view, rule_view, told_view}
use Rattle.pam_render.proofs.parts.policy.found.found_of.Given as goal

abbrev pub invariant-loop-rule : goal.invariant-loop-rule
invariant-loop-rule l =
    map told_view l.found.items ≡ flat_map (λ rule. found_of_rule (host_view l.host) (rule_view rule)) (take l.rule-index l.rules)
