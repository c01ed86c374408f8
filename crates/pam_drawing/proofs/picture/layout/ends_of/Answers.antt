use Rattle.pam_drawing.proofs.PictureProofs.Ranges.{mapped-more}
use Rattle.pam_drawing.proofs.picture.layout.ends_of.Goals as goal
use Rattle.pam_drawing.specs.picture.inner.Laned.{end_in, point_of_end}

pub loop-number-preserved : goal.loop-number-preserved
loop-number-preserved c =
    let measures = c.args.measures.now in
    mapped-more point_of_end (end_in measures.spaces.now.end measures.heights.now measures.grid.now.lanes.of_ends.items) c.loop-number.ends.items _ _
    c.loop-number.number c.loop-number.invariant c.end_place.ensures c.in_ok-push.ensures.items
