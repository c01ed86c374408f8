use Rattle.std.proofs.Common.{arith}
use Rattle.std.proofs.lemmas.Grind.{common_steps}
use Rattle.pam_drawing.proofs.PictureProofs.Ranges.{mapped-more}
use Rattle.pam_drawing.proofs.picture.layout.routes.Measures.places.Goals as goal
use Rattle.pam_drawing.specs.picture.inner.Laned.{height_in, height_of}

pub loop-index-preserved : goal.loop-index-preserved
loop-index-preserved c =
    let measures = c.args.self.now in
    record {
      routes = grind (arith, common_steps);
      notes = grind (arith, common_steps);
      columns = grind (arith, common_steps);
      heights =
          mapped-more height_of (height_in measures.heights.now measures.grid.now.lanes.of_nodes.items) c.loop-index.places.items _ _ c.loop-index.index
          c.loop-index.invariant.heights c.in_ok-place.ensures.height c.in_ok-push.ensures.items;
    }
