use Rattle.std.proofs.Common.{◌∙◌, ap, take}
use Rattle.pam_released.proofs.Scanning.{text_is}
use Rattle.pam_released.proofs.tables.last_line.before_hash.Goals as goal

pub returns : goal.returns
returns c = c.split_at.ensures.front ∙ ap (λ n. take n c.args.line.now) c.text_len.ensures.value ∙ text_is c.args.line.now
