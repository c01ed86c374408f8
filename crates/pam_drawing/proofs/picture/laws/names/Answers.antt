use Rattle.pam_drawing.proofs.PictureProofs.Labels.{long-names, short-names}
use Rattle.pam_drawing.proofs.picture.laws.names.Goals as goal

pub returns : goal.returns
returns c = record { short = short-names; long = long-names }
