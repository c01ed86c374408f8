use Rattle.pam_drawing.proofs.PictureProofs.Ranges.{mapped-more}
use Rattle.pam_drawing.proofs.picture.layout.ports.all_ports.Goals as goal
use Rattle.pam_drawing.specs.picture.inner.Laned.{lane_of, number_at}

pub loop-index-preserved : goal.loop-index-preserved
loop-index-preserved c =
    mapped-more lane_of (number_at c.args.grid.now.lanes.of_nodes.items) c.loop-index.all.items _ _ c.loop-index.index c.loop-index.invariant
    c.in_ok-ports_of.ensures c.in_ok-push.ensures.items
