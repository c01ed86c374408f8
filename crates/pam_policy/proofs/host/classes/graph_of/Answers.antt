use Rattle.std.proofs.Common.{subst, ℕ}
use Rattle.pam_graph.specs.Walks.{walks}
use Rattle.pam_paths.specs.Known.{may_answer}
use Rattle.pam_paths.specs.Listing.{IsListing}
use Rattle.pam_paths.specs.Paths.{path_through}
use Rattle.pam_policy.proofs.host.classes.graph_of.Goals as goal

pub returns-in-Ok-of-clause-graph : goal.returns-in-Ok-of-clause-graph
returns-in-Ok-of-clause-graph c =
    let allows = may_answer c.args.answered.now.known in
    let stack = c.args.answered.now.stack in
    let graph = c.in-Ok-of.graph in
    c.graphs.ensures allows c.in-Ok.program stack graph c.items-items.ensures.numbered
    (subst (λ (n : ℕ). IsListing allows n (path_through stack) (walks graph)) c.in-Ok.ensures.modules
    (c.in-Ok-of.ensures.stack stack c.in-Ok.ensures.runs))
    c.nodes-nodes.ensures.order c.in-Ok-of.ensures.edges
