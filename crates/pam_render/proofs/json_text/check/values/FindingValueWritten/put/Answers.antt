use Rattle.std.proofs.Common.{ap, sym}
use Rattle.pam_codes.proofs.Writing.{writes-is}
use Rattle.serde_json.specs.Written.{compact_text}
use Rattle.pam_render.specs.json_text.inner.Written.{finding_value}
use Rattle.pam_render.specs.declared.json_text.check.values.FindingValue.{FindingValue}
use Rattle.pam_render.proofs.json_text.check.values.FindingValueWritten.put.Goals as goal

pub returns-in-Unused : goal.returns-in-Unused
returns-in-Unused g c =
    writes-is _ _ _ _ _ _ c.put_unused_said.ensures (ap (λ (value : FindingValue). compact_text (finding_value value)) (sym c.in-Unused.is))
