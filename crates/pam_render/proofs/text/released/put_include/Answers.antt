use Rattle.std.proofs.Common.{◌++◌, ap, codes}
use Rattle.pam_codes.proofs.Writing.{writes-is}
use Rattle.pam_render.specs.text.WordText.{shown_word_text}
use Rattle.pam_render.proofs.text.released.put_include.Goals as goal

pub returns : goal.returns
returns g c = writes-is _ _ _ _ _ _ c.put_followed.ensures (ap (λ l. l ++ (codes " " ++ shown_word_text c.args.target.now)) c.include_text.ensures)
