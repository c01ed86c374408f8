-- For private contracts and proofs alone: what the lines of policies use.
use Rattle.std.specs.Prelude.{◌≡◌, map}
use Rattle.pam_report.specs.Reply.{PolicyValue}
use Rattle.pam_render.specs.parts.Policy as spec
use Rattle.pam_render.specs.parts.PolicyView.{host_view, rule_view, told_view}
use Rattle.pam_render.specs.declared.parts.policy.told.Told.{Told}

-- it is what the lines of a value use
pub record IsToldOf (value : PolicyValue) (told : Told) : Type 0 where
  pub host : host_view told.host ≡ spec.host_of value
  pub rules : map rule_view told.rules.items ≡ spec.rules_of value.policies
  pub found : map told_view told.found.items ≡ spec.found_of (spec.host_of value) (spec.rules_of value.policies)
  pub stacks : told.stacks ≡ spec.spoken_count (spec.rules_of value.policies)
