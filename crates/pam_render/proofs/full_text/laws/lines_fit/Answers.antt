use Rattle.pam_render.proofs.FullTextProofs.LineLaws.{lines-fit}
use Rattle.pam_render.proofs.full_text.laws.lines_fit.Goals as goal

pub returns : goal.returns
returns c = lines-fit
