use Rattle.std.proofs.Common.{◌∙◌, ℕ, List, ap, arith, length, map, subst, sym}
use Rattle.std.specs.List.{AllPairs, range_with_len}
use Rattle.pam_graph.specs.declared.node.Node.{Node}
use Rattle.pam_drawing.proofs.PictureProofs.Columns.{has-columns}
use Rattle.pam_drawing.proofs.picture.layout.Layout.of.Goals as goal
use Rattle.pam_drawing.specs.picture.Columns.{spans_after}
use Rattle.pam_drawing.specs.picture.Places.{bytes_of}
use Rattle.pam_drawing.specs.declared.picture.layout.ports.Ports.{Ports}
use Rattle.pam_drawing.specs.picture.inner.Laned.{IsHigher, lane_of, number_at, state_at, state_in}
use Rattle.pam_drawing.specs.picture.inner.Spaced.{HasPlacesIn, ends_of}

pub returns : goal.returns
returns c =
    let layout = c.in_ok-layout.layout in
    let spaces = c.in_ok-spaces.spaces in
    let spans = ap (map ends_of) c.deref-10.ensures.value ∙ c.in_ok-spans.ensures ∙ ap (spans_after 0) c.items.ensures.items in
    let placed = subst (λ (s : List (ℕ × ℕ)). HasPlacesIn spaces c.args.graph.now s layout) spans c.in_ok-layout.ensures.columns in
    record {
      columns =
          has-columns c.args.stack.now c.args.graph.now spaces layout
          (omega (arith, c.in_ok-spaces.ensures.count, c.in_ok-grid.ensures.last, c.modules.ensures.count)) c.in_ok-spaces.ensures.order placed;
      controls = ap (λ v. map bytes_of v.items) c.in_ok-layout.ensures.places.0 ∙ c.in_ok-controls.ensures;
      places = c.in_ok-layout.ensures.places.1;
      notes = c.in_ok-layout.ensures.notes;
      lanes = c.in_ok-layout.ensures.lanes;
    }

pub layout_by-requires-clause-laid : goal.layout_by-requires-clause-laid
layout_by-requires-clause-laid c =
    let lanes = c.in_ok-grid.grid.lanes in
    let all = c.deref-7.ensures.value in
    let heights = c.deref-8.ensures.value in
    record {
      in_lanes = c.in_ok-grid.ensures.lanes;
      leaving =
          ap (map lane_of) all ∙ c.in_ok-all.ensures
          ∙ ap (λ (nodes : List Node). map (number_at lanes.of_nodes.items) (range_with_len 0 (length nodes))) c.nodes-nodes.ensures.nodes;
      order = subst (AllPairs IsHigher) (sym heights) c.in_ok-heights.ensures.order;
      states =
          ap (map state_at) heights ∙ c.in_ok-heights.ensures.states
          ∙ ap (λ (l : List Ports). map (state_in l lanes.states.items) (range_with_len 0 (length lanes.states.items))) (c.deref-3.ensures.value ∙ sym all);
    }
