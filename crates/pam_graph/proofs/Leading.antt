-- Where edges lead.
use Rattle.std.proofs.Common.{◌≡◌, ℕ, true, List, [], ◌∷◌, ◌++◌, Some, Result, Ok, Err, refl, sym, ◌∙◌, ap, subst, length, slice_get, suc, zero}
use Rattle.std.proofs.lemmas.List.Elements.{All-push, All-weaker}
use Rattle.std.specs.Prelude.{All, IfOk, OnOk}
use Rattle.pam_dispatch.specs.declared.flat_item.FlatItem.{FlatItem}
use Rattle.pam_dispatch.specs.declared.place.Place.{Place}
use Rattle.pam_dispatch.specs.Decision.{decision_of}
use Rattle.pam_dispatch.specs.Flat.{rest_of}
use Rattle.pam_dispatch.specs.Keys.{KeyValue, rest_at}
use Rattle.pam_dispatch.specs.Representatives.{AreEqualRests}
use Rattle.pam_dispatch.specs.Runs.{Runs, after_answer, next_ask}
use Rattle.pam_graph.specs.declared.error.GraphError.{GraphError}
use Rattle.pam_graph.specs.declared.node.Edge.{Edge}
use Rattle.pam_graph.specs.declared.node.Node.{Node}
use Rattle.pam_graph.specs.declared.node.Target.{Target}
use Rattle.pam_graph.specs.declared.node.Target.TheVariants.{At, End}
use Rattle.pam_graph.specs.inner.Building.{IsExtended}
use Rattle.pam_graph.specs.Places.{AreEdgesAt, GoesOnAt, IsEdgeAt}
use Rattle.pam_graph.proofs.Rests.{after-equal, asked-equal, classes-equal, equal-sym, equal-trans, state-equal}
use Rattle.pam_paths.specs.declared.fork.Choice.{Choice}
use Rattle.pam_paths.specs.declared.fork.Fork.{Fork}
use Rattle.pam_paths.specs.Classes.{class_of}
use Rattle.pam_paths.specs.Forks.{IsChoice}
use Rattle.pam_paths.specs.Listing.{Allowance}

-- KEYS OF NODES

get-more : (keys more : List KeyValue) (i : ℕ) (key : KeyValue) → slice_get keys i ≡ Some key → slice_get (keys ++ more) i ≡ Some key
get-more [] more i key h = absurd (let k : ⊥ = cc in k)
get-more (x ∷ keys) more zero key h = h
get-more (x ∷ keys) more (suc i) key h = get-more keys more i key h

get-last : (keys : List KeyValue) (key : KeyValue) → slice_get (keys ++ key ∷ []) (length keys) ≡ Some key
get-last [] key = refl
get-last (x ∷ keys) key = get-last keys key

-- TARGETS

module _ (program : List FlatItem) where
  -- a target at which a run goes on is one for an equal rest, and stays one when keys are added
  goes-on-equal : (keys : List KeyValue) (one other : Runs) (t : Target) → AreEqualRests one other → GoesOnAt program keys other t →
      GoesOnAt program keys one t
  goes-on-equal keys one other (At index) e h = (h.0, h.1, equal-trans (rest_at program h.0) other one h.2 (equal-sym one other e))
  goes-on-equal keys one other (End d) e h = (asked-equal one other e ∙ h.0, h.1 ∙ ap decision_of (sym (state-equal one other e)))

  goes-on-more : (keys more : List KeyValue) (runs : Runs) (t : Target) → GoesOnAt program keys runs t → GoesOnAt program (keys ++ more) runs t
  goes-on-more keys more runs (At index) h = (h.0, get-more keys more index h.0 h.1, h.2)
  goes-on-more keys more runs (End d) h = h

  -- at a node that was added
  pub added-goes-on : (old new : List KeyValue) (key : KeyValue) (runs : Runs) (count : ℕ) (result : Result Target GraphError) →
      count ≡ length old → AreEqualRests (rest_at program key) runs → OnOk result (new ≡ old ++ key ∷ []) →
      IfOk result (λ target. target ≡ At count) → IfOk result (GoesOnAt program new runs)
  added-goes-on old new key runs count (Ok target) same rests is at =
      subst (GoesOnAt program new runs) (sym at)
      (key, ap (slice_get new) same ∙ ap (λ (x : List KeyValue). slice_get x (length old)) is ∙ get-last old key, rests)
  added-goes-on old new key runs count (Err e) same rests is at = tt

-- EDGES

module _ (allows : Allowance) (program : List FlatItem) where
  edge-more : (keys more : List KeyValue) (number : ℕ) (runs : Runs) (edge : Edge) → IsEdgeAt allows program keys number runs edge →
      IsEdgeAt allows program (keys ++ more) number runs edge
  edge-more keys more number runs edge h = record {
    code = h.code;
    is_code = h.is_code;
    allowed = h.allowed;
    class = h.class;
    leads = goes-on-more program keys more (after_answer runs h.code) edge.target h.leads;
  }

  edges-more : (all more keys : List KeyValue) (nodes : List Node) → AreEdgesAt allows program all keys nodes →
      AreEdgesAt allows program (all ++ more) keys nodes
  unfolding AreEdgesAt
  edges-more all more [] [] h = tt
  edges-more all more [] (node ∷ nodes) h = absurd h
  edges-more all more (key ∷ keys) [] h = absurd h
  edges-more all more (key ∷ keys) (node ∷ nodes) h = (
    All-weaker (IsEdgeAt allows program all node.module_number (rest_at program key))
        (IsEdgeAt allows program (all ++ more) node.module_number (rest_at program key))
        (edge-more all more node.module_number (rest_at program key)) node.edges.items h.0,
    edges-more all more keys nodes h.1,
  )

  edges-push : (all keys : List KeyValue) (nodes : List Node) (key : KeyValue) (node : Node) → AreEdgesAt allows program all keys nodes →
      All (IsEdgeAt allows program all node.module_number (rest_at program key)) node.edges.items →
      AreEdgesAt allows program all (keys ++ key ∷ []) (nodes ++ node ∷ [])
  unfolding AreEdgesAt
  edges-push all [] [] key node h edges = (edges, tt)
  edges-push all [] (x ∷ nodes) key node h edges = absurd h
  edges-push all (k ∷ keys) [] key node h edges = absurd h
  edges-push all (k ∷ keys) (x ∷ nodes) key node h edges = (h.0, edges-push all keys nodes key node h.1 edges)

  -- a node is added whose edges lead to earlier ones
  pub added-edges : (old new : List Node) (keys after : List KeyValue) (node : Node) (key : KeyValue) (result : Result Target GraphError) →
      AreEdgesAt allows program keys keys old → All (IsEdgeAt allows program keys node.module_number (rest_at program key)) node.edges.items →
      OnOk result (new ≡ old ++ node ∷ []) → OnOk result (after ≡ keys ++ key ∷ []) → OnOk result (AreEdgesAt allows program after after new)
  added-edges old new keys after node key (Ok target) h edges is at =
      subst (λ (x : List Node). AreEdgesAt allows program after after x) (sym is)
      (subst (λ (x : List KeyValue). AreEdgesAt allows program x x (old ++ node ∷ [])) (sym at)
      (edges-more keys (key ∷ []) (keys ++ key ∷ []) (old ++ node ∷ []) (edges-push keys keys old key node h edges)))
  added-edges old new keys after node key (Err e) h edges is at = tt

  -- a graph without nodes
  pub no-edges : (keys : List KeyValue) (nodes : List Node) → keys ≡ [] → nodes ≡ [] → AreEdgesAt allows program keys keys nodes
  unfolding AreEdgesAt
  no-edges keys nodes none empty =
      subst (λ (x : List KeyValue). AreEdgesAt allows program x x nodes) (sym none)
      (subst (λ (x : List Node). AreEdgesAt allows program [] [] x) (sym empty) tt)

  -- an edge is added for a choice at a place whose rest is equal to that from a key on
  pub edges-choice : (old new : List KeyValue) (m : ℕ) (place : Place) (key : KeyValue) (fork : Fork) (choice : Choice) (edges : List Edge)
      (target : Target) → IsExtended old new → AreEqualRests (rest_at program key) (rest_of program place) → fork.place ≡ place →
      fork.module_number ≡ m → IsChoice allows program fork choice → GoesOnAt program new (rest_of program choice.place) target →
      All (IsEdgeAt allows program old m (rest_at program key)) edges →
      All (IsEdgeAt allows program new m (rest_at program key)) (edges ++ record { class = choice.class; target = target } ∷ [])
  edges-choice old new m place key fork choice edges target added rests here numbered is leads h =
      let edge : Edge = record { class = choice.class; target = target } in
      let runs = rest_at program key in
      let after : rest_of program choice.place ≡ after_answer (rest_of program place) is.code =
      is.rest ∙ ap (λ (p : Place). after_answer (rest_of program p) is.code) here in
      let first : IsEdgeAt allows program new m runs edge = record {
        code = is.code;
        is_code = is.is_code;
        allowed = subst (λ (n : ℕ). allows n is.code ≡ true) numbered is.allowed;
        class = is.class ∙ ap (λ (p : Place). class_of (next_ask (rest_of program p)) is.code) here
            ∙ sym (classes-equal allows runs (rest_of program place) is.code rests);
        leads = goes-on-equal program new (after_answer runs is.code) (after_answer (rest_of program place) is.code) target
            (after-equal runs (rest_of program place) is.code rests) (subst (λ (r : Runs). GoesOnAt program new r target) after leads);
      } in
      All-push (IsEdgeAt allows program new m runs) edges edge
      (subst (λ (x : List KeyValue). All (IsEdgeAt allows program x m runs) edges) (sym added.1)
      (All-weaker (IsEdgeAt allows program old m runs) (IsEdgeAt allows program (old ++ added.0) m runs) (edge-more old added.0 m runs) edges h))
      first
