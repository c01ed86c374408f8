use Rattle.std.proofs.Common.{◌∙◌, List, ap, false, sym}
use Rattle.pam_graph.specs.declared.tally.Tally.{Tally}
use Rattle.pam_graph.specs.inner.Tallies.{count_to, number, tallies_of}
use Rattle.pam_graph.specs.Walks.{GraphValue, walks, walks_of}
use Rattle.pam_graph.proofs.Counting.{number-to, tallies-within}
use Rattle.pam_graph.proofs.Withins.{start-within}
use Rattle.pam_graph.proofs.graph.Graph.count.Goals as goal

pub count_to-requires : goal.count_to-requires
count_to-requires c =
    tallies-within c.args.goal.now c.self.inside.nodes.items c.deref-2.result.now c.self.inside.start
    (c.deref-2.ensures.value ∙ c.in_ok-tallies.ensures ∙ ap (tallies_of c.args.goal.now) c.deref.ensures.value)
    (start-within c.self.inside.nodes.items 0 c.self.inside.start c.self.invariant.1)

pub returns : goal.returns
unfolding number
returns c =
    let nodes = c.self.inside.nodes.items in
    let goal = c.args.goal.now in
    c.count_to.ensures
    ∙ ap (λ (x : List Tally). count_to goal false x c.self.inside.start)
    (c.deref-2.ensures.value ∙ c.in_ok-tallies.ensures ∙ ap (tallies_of goal) c.deref.ensures.value)
    ∙ sym (number-to goal false (walks_of nodes) c.self.inside.start)
    ∙ ap (λ (g : GraphValue). number goal false (walks g)) c.self.view_is
