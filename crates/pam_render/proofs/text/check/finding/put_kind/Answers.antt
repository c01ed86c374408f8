use Rattle.std.proofs.Common.{◌∙◌}
use Rattle.pam_codes.proofs.Writing.{all-is, writes-then}
use Rattle.pam_render.proofs.text.check.finding.put_kind.Goals as goal

pub returns : goal.returns
returns g c = writes-then _ _ _ (all-is c.in_ok-put.ensures (c.as_bytes.ensures.value ∙ c.kind_name.ensures)) c.put_of_service.ensures
