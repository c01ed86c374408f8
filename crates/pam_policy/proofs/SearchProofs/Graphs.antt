-- The graph of a program is that of its stack.
use Rattle.std.proofs.Common.{ℕ, List, [], ◌∷◌, ◌++◌, inl, inr, subst}
use Rattle.pam_dispatch.specs.declared.flat_item.FlatItem.{FlatItem}
use Rattle.pam_dispatch.specs.Keys.{KeyValue, rest_at}
use Rattle.pam_dispatch.specs.Runs.{next_ask}
use Rattle.pam_graph.specs.declared.node.Node.{Node}
use Rattle.pam_graph.specs.Order.{AreNodes}
use Rattle.pam_graph.specs.Places.{AreEdgesAt, IsEdgeAt}
use Rattle.pam_paths.specs.Listing.{Allowance}
use Rattle.pam_text.specs.Members.{Member}
use Rattle.pam_policy.specs.search.Laws.{GraphsOfPrograms}
use Rattle.pam_policy.specs.search.Witness.{AreApart}
use Rattle.pam_policy.proofs.SearchProofs.Implied.{all-member, apart-at}

module _ (allows : Allowance) (program : List FlatItem) (all : List KeyValue) where
  -- the classes of the edges of a node at a place are those of the module as it is asked there
  apart-nodes : (before : List ℕ) (keys : List KeyValue) (nodes : List Node) → AreNodes before nodes → AreEdgesAt allows program all keys nodes → AreApart nodes
  unfolding Member AreNodes AreEdgesAt
  apart-nodes before [] [] order at node i = absurd i
  apart-nodes before (key ∷ keys) [] order at node i = absurd i
  apart-nodes before [] (first ∷ nodes) order at node i = absurd at
  apart-nodes before (key ∷ keys) (first ∷ nodes) order at node (inl e) = λ one other j k code x y.
      let runs = rest_at program key in
      apart-at (next_ask runs) 0 31 first.edges.items order.0.rise
      (λ edge m. let is = all-member (IsEdgeAt allows program all first.module_number runs) first.edges.items edge at.0 m in (is.code, is.class)) one other
      (subst (λ (n : Node). Member one n.edges.items) e j) (subst (λ (n : Node). Member other n.edges.items) e k) code x y
  apart-nodes before (key ∷ keys) (first ∷ nodes) order at node (inr i) =
      apart-nodes (before ++ first.module_number ∷ []) keys nodes order.1 at.1 node i

pub graphs-of : GraphsOfPrograms
graphs-of allows program items graph numbered listing order edges = record {
  numbered = numbered;
  listing = listing;
  apart = apart-nodes allows program edges.0 [] edges.0 graph.nodes order edges.3;
}
