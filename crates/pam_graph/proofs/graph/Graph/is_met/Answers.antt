use Rattle.std.proofs.Common.{◌∙◌, ap}
use Rattle.pam_graph.specs.Walks.{walks}
use Rattle.pam_graph.specs.inner.Tallies.{has_walks}
use Rattle.pam_graph.proofs.Counting.{any-counted}
use Rattle.pam_graph.proofs.graph.Graph.is_met.Goals as goal

pub returns : goal.returns
returns c = c.has_walks.ensures ∙ ap has_walks c.in_ok-count.ensures ∙ any-counted c.args.goal.now (walks c.args.self.now)
