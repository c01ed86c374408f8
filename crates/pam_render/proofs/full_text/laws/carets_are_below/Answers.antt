use Rattle.pam_render.proofs.FullTextProofs.LineLaws.{carets-are-below}
use Rattle.pam_render.proofs.full_text.laws.carets_are_below.Goals as goal

pub returns : goal.returns
returns c = carets-are-below
