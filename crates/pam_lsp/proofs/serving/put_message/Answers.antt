use Rattle.std.proofs.Common.{◌∙◌}
use Rattle.pam_text.proofs.Writing.{all-is}
use Rattle.pam_lsp.proofs.serving.put_message.Goals as goal

pub returns : goal.returns
returns g c = (all-is c.in_ok-put.ensures (c.deref.ensures.value ∙ c.in_ok-frame.ensures)).took.held
