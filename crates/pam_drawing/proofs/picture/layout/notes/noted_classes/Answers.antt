use Rattle.std.proofs.Common.{◌∙◌, ap, map}
use Rattle.pam_drawing.proofs.PictureProofs.Noted.{next}
use Rattle.pam_drawing.proofs.picture.layout.notes.noted_classes.Goals as goal
use Rattle.pam_drawing.specs.picture.Notes.{class_of, classes_of}
use Rattle.pam_drawing.specs.picture.Notes.{with_classes}

pub loop-node-preserved : goal.loop-node-preserved
loop-node-preserved c =
    let known = c.loop-node.classes.items in
    next classes_of c.args.nodes.now known _ _ c.loop-node.node-index c.node-item.result c.loop-node-test.true c.node-item.is
    (c.in_ok-add_classes.ensures ∙ ap (λ edges. with_classes known (map class_of edges)) c.deref.ensures.value) c.loop-node.invariant
