use Rattle.std.proofs.Common.{ap, sym}
use Rattle.pam_codes.proofs.Writing.{writes-is}
use Rattle.serde_json.specs.Written.{compact_text}
use Rattle.pam_render.specs.json_text.inner.Written.{policy_value}
use Rattle.pam_render.specs.declared.json_text.policy.values.PolicyValue.{PolicyValue}
use Rattle.pam_render.proofs.json_text.policy.values.PolicyValueWritten.put.Goals as goal

pub returns-in-Stacks : goal.returns-in-Stacks
returns-in-Stacks g c =
    writes-is _ _ _ _ _ _ c.put_array.ensures (ap (λ (value : PolicyValue). compact_text (policy_value value)) (sym c.in-Stacks.is))
