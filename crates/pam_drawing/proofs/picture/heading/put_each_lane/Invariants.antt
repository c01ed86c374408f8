-- what comes first is written
use Rattle.pam_codes.specs.Out.{TookAll}
use Rattle.pam_drawing.proofs.picture.heading.put_each_lane.Given as goal
use Rattle.pam_drawing.specs.picture.Picture.{lane_text}
use Rattle.std.proofs.Common.{take}
use Rattle.std.specs.List.{flat_map}

abbrev pub invariant-loop-lane : goal.invariant-loop-lane
invariant-loop-lane g l = TookAll g.W.Write.contents l.initial.out l.out (flat_map (lane_text l.width) (take l.lane-index l.lanes))
