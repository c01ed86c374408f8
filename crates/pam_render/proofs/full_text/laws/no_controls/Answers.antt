use Rattle.pam_render.proofs.FullTextProofs.LineLaws.{no-controls}
use Rattle.pam_render.proofs.full_text.laws.no_controls.Goals as goal

pub returns : goal.returns
returns c = no-controls
