use Rattle.std.proofs.Common.{◌+◌, drop, ap}
use Rattle.std.specs.List.{flat_map}
use Rattle.pam_codes.proofs.Writing.{err-front, front-is, front-longer, front-then}
use Rattle.pam_drawing.specs.Drawing.{edge_text}
use Rattle.pam_text.proofs.FlatTexts.{flat_map-at}
use Rattle.pam_drawing.proofs.edge.put_edges.Goals as goal

pub returns-in_err-put_edge : goal.returns-in_err-put_edge
returns-in_err-put_edge g c =
    let text = edge_text c.args.format c.args.index in
    let all = c.args.edges.now in
    let index = c.loop-edge.edge-index in
    err-front _ c.from_residual.ensures.0
    (front-is
    (front-longer (flat_map text (drop (index + 1) all))
    (front-then c.loop-edge.invariant (front-is c.in_err-put_edge.ensures (ap text c.edge-item.is))))
    (flat_map-at text all index _ c.loop-edge-test.true))
