-- Laws of the definitions.
use Rattle.std.specs.Prelude.{◌≡◌}
use Rattle.pam_report.specs.declared.report.graph.TheConstants.{MAX_PICTURE_NODES}

-- a graph of at most 400 nodes is drawn as a picture
abbrev pub MostPictureNodes : Type 0
MostPictureNodes = MAX_PICTURE_NODES ≡ 400
