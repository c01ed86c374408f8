use Rattle.std.proofs.Common.{◌∙◌, ap, length, map, refl}
use Rattle.std.specs.List.{range_with_len}
use Rattle.pam_drawing.proofs.PictureProofs.Columns.{count-ends, ends-in-column}
use Rattle.pam_drawing.proofs.PictureProofs.Lanes.{has-lanes}
use Rattle.pam_drawing.proofs.PictureProofs.Notes.{has-notes}
use Rattle.pam_drawing.proofs.picture.layout.layout_by.Goals as goal
use Rattle.pam_drawing.specs.picture.Layouts.{edges_of}
use Rattle.pam_drawing.specs.picture.inner.Laned.{height_in}
use Rattle.pam_drawing.specs.picture.inner.Noted.{numbers_in}
use Rattle.pam_drawing.specs.picture.inner.Spaced.{module_of, place_in}

pub returns-clause-notes : goal.returns-clause-notes
returns-clause-notes c =
    let nodes = c.args.graph.now.nodes in
    let known = c.args.measures.now.noted.now in
    has-notes nodes known _ c.requires.noted c.in_ok-notes.ensures.numbers c.in_ok-notes.ensures.classes
    (c.in_ok-places.ensures.notes ∙ ap (map (numbers_in known)) c.nodes.ensures.nodes)

pub returns-clause-lanes : goal.returns-clause-lanes
returns-clause-lanes c =
    let measures = c.args.measures.now in
    let lanes = measures.grid.now.lanes in
    has-lanes c.args.graph.now lanes measures.all.now measures.heights.now measures.spaces.now.end _ c.requires.laid c.in_ok-lanes.ensures
    (c.in_ok-places.ensures.heights
    ∙ ap (λ nodes. map (height_in measures.heights.now lanes.of_nodes.items) (range_with_len 0 (length nodes))) c.nodes.ensures.nodes)
    c.in_ok-ends.ensures

pub returns-clause-places : goal.returns-clause-places
returns-clause-places c =
    let measures = c.args.measures.now in (
      refl,
      record {
        nodes = c.in_ok-places.ensures.routes ∙ ap (map edges_of) c.nodes.ensures.nodes;
        ends = count-ends c.in_ok-ends.ends.items measures.spaces.now.end measures.heights.now measures.grid.now.lanes.of_ends.items c.in_ok-ends.ensures;
      },
    )

pub returns-clause-columns : goal.returns-clause-columns
returns-clause-columns c =
    let measures = c.args.measures.now in
    let spaces = measures.spaces.now in
    record {
      columns = c.in_ok-columns.ensures ∙ c.deref.ensures.value;
      nodes = c.in_ok-places.ensures.columns ∙ ap (λ nodes. map (place_in spaces) (map module_of nodes)) c.nodes.ensures.nodes;
      ends = ends-in-column c.in_ok-ends.ends.items spaces.end measures.heights.now measures.grid.now.lanes.of_ends.items c.in_ok-ends.ensures;
      brackets = c.in_ok-brackets.ensures;
    }
