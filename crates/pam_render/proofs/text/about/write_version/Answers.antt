use Rattle.std.proofs.Common.{◌∙◌}
use Rattle.pam_codes.proofs.Writing.{all-is, flushes-last}
use Rattle.pam_render.proofs.TextProofs.ExplainTexts.{version-is}
use Rattle.pam_render.proofs.text.about.write_version.Goals as goal

pub returns : goal.returns
returns g c =
    flushes-last _ _ (all-is c.in_ok-put_line.ensures (version-is c.as_bytes.result.now (c.as_bytes.ensures.value ∙ c.version.ensures))) c.finish.ensures
