use Rattle.pam_drawing.proofs.Ends.{one-passes}
use Rattle.pam_drawing.proofs.edge.end_at.Goals as goal

pub returns : goal.returns
returns c = one-passes c.args.decision _ _ c.empty-end.ensures c.insert.ensures
