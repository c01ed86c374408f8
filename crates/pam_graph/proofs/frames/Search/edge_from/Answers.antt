use Rattle.std.proofs.Common.{◌∙◌, ◌+◌, ◌++◌, List, ap, drop, map, sym}
use Rattle.pam_graph.specs.Frames.{edges_in, wanted_by}
use Rattle.pam_graph.specs.inner.Tallies.{has_walks}
use Rattle.pam_graph.proofs.Counting.{none-onward, some-onward}
use Rattle.pam_graph.proofs.Sides.{above-in, drop-in, wanted-first, within-in}
use Rattle.pam_paths.specs.Computed.{after_step}
use Rattle.pam_paths.specs.Paths.{PathValue}
use Rattle.pam_graph.proofs.frames.Search.edge_from.Goals as goal

pub count_to-requires : goal.count_to-requires
count_to-requires c =
    within-in c.args.self.now.direction _ c.args.edges.now c.loop-index.index c.edge-edge.result c.requires c.loop-index-test.true c.edge-edge.ensures

pub returns-then-has_walks-clause-some : goal.returns-then-has_walks-clause-some
returns-then-has_walks-clause-some c known same =
    let search = c.args.self.now in
    let i = c.loop-index.index in
    c.loop-index.invariant known same
    ∙ ap (wanted_by search.goal.now c.args.is_met known c.args.number)
    (drop-in search.direction c.args.edges.now i c.edge-edge.result c.loop-index-test.true c.edge-edge.ensures)
    ∙ wanted-first search.goal.now c.args.is_met c.met_after-is_met_after.result known c.args.number c.edge-edge.result _ c.met_after-is_met_after.ensures

pub returns-then-has_walks-clause-wanted : goal.returns-then-has_walks-clause-wanted
returns-then-has_walks-clause-wanted c known same =
    some-onward c.args.self.now.goal.now c.met_after-is_met_after.result known c.args.self.now.tallies.now c.edge-edge.result.target same
    (ap has_walks (sym c.count_to.ensures) ∙ sym c.has_walks.ensures ∙ c.if-has_walks.true)

pub returns-then-has_walks-clause-above : goal.returns-then-has_walks-clause-above
returns-then-has_walks-clause-above c numbers low above =
    above-in c.args.self.now.direction numbers low c.args.edges.now c.loop-index.index c.edge-edge.result above c.loop-index-test.true c.edge-edge.ensures

pub loop-index-preserved : goal.loop-index-preserved
loop-index-preserved c known same =
    let search = c.args.self.now in
    let edges = edges_in search.direction c.args.edges.now in
    let i = c.loop-index.index in
    let none =
    none-onward search.goal.now c.met_after-is_met_after.result known search.tallies.now c.edge-edge.result.target same
    (ap has_walks (sym c.count_to.ensures) ∙ sym c.has_walks.ensures ∙ c.if-has_walks.false) in
    c.loop-index.invariant known same
    ∙ ap (wanted_by search.goal.now c.args.is_met known c.args.number)
    (drop-in search.direction c.args.edges.now i c.edge-edge.result c.loop-index-test.true c.edge-edge.ensures)
    ∙ wanted-first search.goal.now c.args.is_met c.met_after-is_met_after.result known c.args.number c.edge-edge.result _ c.met_after-is_met_after.ensures
    ∙ ap (λ (x : List PathValue). map (after_step (record { module_number = c.args.number; class = c.edge-edge.result.class })) x
    ++ wanted_by search.goal.now c.args.is_met known c.args.number (drop (i + 1) edges)) none
