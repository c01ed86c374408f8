-- the rules of the policies so far are told
use Rattle.std.proofs.Common.{◌≡◌, map, take}
use Rattle.std.specs.List.{flat_map}
use Rattle.pam_render.specs.parts.Policy.{rules_of_policy}
use Rattle.pam_render.specs.parts.PolicyView.{rule_view}
use Rattle.pam_render.proofs.parts.policy.found.rules_of.Given as goal

abbrev pub invariant-loop-policy : goal.invariant-loop-policy
invariant-loop-policy l = map rule_view l.told.items ≡ flat_map rules_of_policy (take l.policy-index l.policies)
