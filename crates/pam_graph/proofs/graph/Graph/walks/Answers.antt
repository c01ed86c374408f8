use Rattle.std.proofs.Common.{◌++◌, ◌∙◌, List, ap, append-nil, false, length, subst, sym}
use Rattle.pam_graph.specs.declared.direction.Direction.TheVariants.{Forward}
use Rattle.pam_graph.specs.declared.frames.Frame.{Frame}
use Rattle.pam_graph.specs.declared.node.Target.{Target}
use Rattle.pam_graph.specs.Frames.{ahead, along, coming, under}
use Rattle.pam_graph.specs.inner.Frames.{AreFrames}
use Rattle.pam_graph.specs.Order.{IsAbove, numbers_of}
use Rattle.pam_graph.specs.Tallies.{wanted_of}
use Rattle.pam_graph.specs.inner.Tallies.{tallies_of}
use Rattle.pam_graph.specs.Walks.{GraphValue}
use Rattle.pam_graph.proofs.Sides.{known-at}
use Rattle.pam_graph.proofs.Following.{no-steps}
use Rattle.pam_paths.specs.Computed.{after_steps}
use Rattle.pam_graph.proofs.graph.Graph.walks.Goals as goal

pub invariant_of-result : goal.invariant_of-result
unfolding AreFrames
invariant_of-result c = (
  record {
    valid = subst (AreFrames c.args.self.now.nodes 0) (sym c.new.ensures) tt;
    way = subst (λ (x : List Frame). IsAbove (numbers_of c.args.self.now.nodes) (length x) c.start.result) (sym c.new.ensures) c.start.ensures.order;
  },
  no-steps c.new.result.items c.new-2.result.steps c.new.ensures,
  c.in_ok-tallies.ensures ∙ ap (tallies_of c.args.goal) (c.deref.ensures.value ∙ ap (λ (g : GraphValue). g.nodes) c.self.view_is),
)

pub returns-clause-walks : goal.returns-clause-walks
unfolding coming after_steps ahead
returns-clause-walks c =
    let g = c.args.self.now in
    ap (λ (x : List Frame). under x (along Forward c.args.goal g.nodes (record { target = c.start.result; is_met = false }))
    ++ ahead Forward c.args.goal g.nodes x) c.new.ensures
    ∙ append-nil _
    ∙ ap (λ (t : Target). along Forward c.args.goal g.nodes (record { target = t; is_met = false })) c.start.ensures.start
    ∙ ap (wanted_of c.args.goal false) (known-at Forward g.nodes g.start)
