use Rattle.pam_drawing.proofs.EscapedTexts.{texts-plain}
use Rattle.pam_drawing.proofs.laws.texts.Goals as goal

pub returns : goal.returns
returns c = record { plain = texts-plain }
