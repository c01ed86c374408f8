use Rattle.std.proofs.Common.{ap, sym}
use Rattle.pam_codes.proofs.Writing.{writes-is}
use Rattle.serde_json.specs.Written.{compact_text}
use Rattle.pam_render.specs.json_text.inner.Written.{needs_value}
use Rattle.pam_render.specs.declared.json_text.needs.NeedsValue.{NeedsValue}
use Rattle.pam_render.proofs.json_text.needs.NeedsValueWritten.put.Goals as goal

pub returns-in-Events : goal.returns-in-Events
returns-in-Events g c =
    writes-is _ _ _ _ _ _ c.put_array.ensures (ap (λ (value : NeedsValue). compact_text (needs_value value)) (sym c.in-Events.is))
