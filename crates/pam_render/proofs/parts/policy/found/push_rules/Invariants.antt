-- the rules that are not left are told
use Rattle.std.proofs.Common.{◌≡◌, ◌++◌, map}
use Rattle.std.specs.Iterator.Adapters.{zip_first, zip_second}
use Rattle.std.specs.List.{zip}
use Rattle.std.specs.Slice.Iter.{iter_rest}
use Rattle.pam_render.specs.parts.Policy.{rules_of_policy, told_rule}
use Rattle.pam_render.specs.parts.PolicyView.{rule_view}
use Rattle.pam_render.proofs.parts.policy.found.push_rules.Given as goal

abbrev pub invariant-loop-rule : goal.invariant-loop-rule
invariant-loop-rule l =
    map rule_view l.told.items ++ map (told_rule l.policy.name.now) (zip (iter_rest (zip_first l.rule-iterator)) (iter_rest (zip_second l.rule-iterator)))
    ≡ map rule_view l.initial.told.items ++ rules_of_policy l.policy
