use Rattle.std.proofs.Common.{◌≡◌, ◌≢◌, None, length}
use Rattle.std.specs.Option.{option_map}
use Rattle.pam_graph.specs.inner.Deciding.{after_steps, first_deciding}
use Rattle.pam_graph.specs.Order.{IsAbove, numbers_of}
use Rattle.pam_graph.specs.Walks.{walks_of, walks_to}
use Rattle.pam_graph.specs.inner.Within.{height}
use Rattle.pam_graph.proofs.decisions.first_from.Given as goal

abbrev pub invariant-loop-target : goal.invariant-loop-target
invariant-loop-target l = record {
  above : IsAbove (numbers_of l.nodes) (length l.path.steps) l.target;
  leads : first_deciding l.code (walks_to (walks_of l.nodes) l.target) ≢ None;
  same : first_deciding l.code (walks_to (walks_of l.nodes) l.fn.start)
      ≡ option_map (after_steps l.path.steps) (first_deciding l.code (walks_to (walks_of l.nodes) l.target));
}

abbrev pub decreases-loop-target : goal.decreases-loop-target
decreases-loop-target l = height l.target
