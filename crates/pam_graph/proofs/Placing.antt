-- Nodes at their places.
use Rattle.std.proofs.Common.{◌≡◌, List, [], ◌∷◌, Some, map, sym, ◌∙◌, ap, subst}
use Rattle.pam_dispatch.specs.declared.flat_item.FlatItem.{FlatItem}
use Rattle.pam_dispatch.specs.Flat.{modules_of}
use Rattle.pam_dispatch.specs.Keys.{KeyValue, rest_at}
use Rattle.pam_dispatch.specs.Runs.{Assignment, state_in}
use Rattle.pam_graph.specs.declared.node.Node.{Node}
use Rattle.pam_graph.specs.inner.Building.{AreAsking, IsAsking, IsBuilt, next_number, states_of}
use Rattle.pam_graph.specs.Order.{numbers_of}
use Rattle.pam_graph.specs.Places.{AreNodesAt, IsNodeAt}
use Rattle.pam_graph.specs.Reached.{AreReachedKeys, IsReachedKey}
use Rattle.pam_graph.specs.Walks.{walks_of}
use Rattle.pam_paths.specs.Computed.{listing}
use Rattle.pam_paths.specs.Listing.{Allowance, IsAllowed, IsListing}
use Rattle.pam_paths.specs.Paths.{PathValue, path_of}
use Rattle.pam_paths.proofs.Listings.{listing-is}

module _ (allows : Allowance) (program : List FlatItem) (b : Assignment) (ok : IsAllowed allows (modules_of program) b) where
  node-at : (key : KeyValue) (node : Node) (walks : List PathValue) → IsReachedKey allows program key → IsAsking (modules_of program) (rest_at program key) →
      node.module_number ≡ next_number (rest_at program key) → node.state ≡ state_in (rest_at program key) → walks ≡ listing allows (rest_at program key) →
      IsNodeAt allows program key node walks
  node-at key node walks reached asking number state is = record {
    reached = reached;
    asked = asking.asked ∙ ap Some (sym number);
    state = sym state;
    listing = subst (IsListing allows (modules_of program) (path_of (rest_at program key))) (sym is)
        (listing-is allows (modules_of program) (rest_at program key) asking.rise b ok);
  }

  nodes-at : (keys : List KeyValue) (nodes : List Node) (walks : List (List PathValue)) → AreReachedKeys allows program keys →
      AreAsking (modules_of program) (map (rest_at program) keys) → numbers_of nodes ≡ map next_number (map (rest_at program) keys) →
      states_of nodes ≡ map state_in (map (rest_at program) keys) → walks ≡ map (listing allows) (map (rest_at program) keys) →
      AreNodesAt allows program keys nodes walks
  unfolding AreAsking AreNodesAt AreReachedKeys
  nodes-at [] [] [] h a n s w = tt
  nodes-at [] [] (x ∷ walks) h a n s w = absurd (let k : ⊥ = cc in k)
  nodes-at [] (node ∷ nodes) walks h a n s w = absurd (let k : ⊥ = cc in k)
  nodes-at (key ∷ keys) [] walks h a n s w = absurd (let k : ⊥ = cc in k)
  nodes-at (key ∷ keys) (node ∷ nodes) [] h a n s w = absurd (let k : ⊥ = cc in k)
  nodes-at (key ∷ keys) (node ∷ nodes) (x ∷ walks) h a n s w =
      let number : node.module_number ≡ next_number (rest_at program key) = cc in
      let state : node.state ≡ state_in (rest_at program key) = cc in
      let first : x ≡ listing allows (rest_at program key) = cc in
      let numbers : numbers_of nodes ≡ map next_number (map (rest_at program) keys) = cc in
      let states : states_of nodes ≡ map state_in (map (rest_at program) keys) = cc in
      let others : walks ≡ map (listing allows) (map (rest_at program) keys) = cc in
      (node-at key node x h.0 a.0 number state first, nodes-at keys nodes walks h.1 a.1 numbers states others)

  -- the nodes of a graph that is built are at its places
  pub built-at : (nodes : List Node) (keys : List KeyValue) → IsBuilt allows program nodes keys → AreReachedKeys allows program keys →
      AreNodesAt allows program keys nodes (walks_of nodes)
  built-at nodes keys built reached = nodes-at keys nodes (walks_of nodes) reached built.asking built.numbers built.states built.walks
