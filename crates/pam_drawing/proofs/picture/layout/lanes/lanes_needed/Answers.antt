use Rattle.std.proofs.Common.{◌∙◌}
use Rattle.pam_drawing.proofs.PictureProofs.Rooms.{end-there}
use Rattle.pam_drawing.proofs.picture.layout.lanes.lanes_needed.Goals as goal

pub returns-clause-end : goal.returns-clause-end
returns-clause-end c = λ drawn is. c.lanes_after.ensures.room (c.has_end-needs_lane.ensures ∙ end-there c.args.nodes.now c.args.ends c.args.state drawn is)
