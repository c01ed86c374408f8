-- How a run goes on from a node.
use Rattle.std.proofs.Common.{◌≡◌, ℕ, ◌+◌, ◌-◌, ◌<◌, ◌≤◌, List, [], ◌∷◌, ◌++◌, Some, refl, sym, ◌∙◌, ap, subst, arith, length, slice_index_or}
use Rattle.std.proofs.Common.{append-nil, append_assoc}
use Rattle.pam_graph.specs.declared.node.Edge.{Edge}
use Rattle.pam_graph.specs.declared.node.Node.{Node}
use Rattle.pam_graph.specs.declared.node.Target.{Target}
use Rattle.pam_graph.specs.declared.node.Target.TheVariants.{At}
use Rattle.pam_graph.specs.Order.{AreNodes}
use Rattle.pam_graph.specs.Walks.{walks_at, walks_of, walks_to}
use Rattle.pam_graph.specs.inner.Within.{AreWithin}
use Rattle.pam_graph.proofs.Sides.{node-valid, walks-node}
use Rattle.pam_graph.proofs.Withins.{AreAbove-within}
use Rattle.pam_paths.specs.Known.{may_answer}
use Rattle.pam_paths.specs.Paths.{PathValue}
use Rattle.pam_policy.specs.declared.search.distances.Search.{Search}
use Rattle.pam_policy.specs.declared.search.distances.TheConstants.{FAR}
use Rattle.pam_policy.specs.declared.search.run.Step.{Step}
use Rattle.pam_policy.specs.declared.search.walking.Choice.{Choice}
use Rattle.pam_policy.specs.search.inner.Choices.{IsChoice, IsFirstChoice}
use Rattle.pam_policy.specs.search.inner.Distances.{GoodAlong, IsFirst, after_answer, after_steps}
use Rattle.pam_policy.specs.search.inner.Searches.{IsLeastFrom}
use Rattle.pam_policy.specs.search.Runs.{RunValue}
use Rattle.pam_policy.specs.search.Witness.{AreApart}
use Rattle.pam_policy.proofs.SearchProofs.Choosing.{by-edges}
use Rattle.pam_policy.proofs.SearchProofs.Firsts.{choice-of, first-step}
use Rattle.pam_policy.proofs.SearchProofs.Nodes.{member-at}

abbrev whole : List Step → ℕ → RunValue
whole steps decision = record { steps = steps; decision = decision }

-- steps, and then a run that begins with one more
pub steps-then : (steps : List Step) (number code : ℕ) (rest : RunValue) →
    after_steps steps (after_answer number code rest) ≡ after_steps (steps ++ record { module_number = number; code = code } ∷ []) rest
steps-then steps number code rest =
    let one : Step = record { module_number = number; code = code } in
    ap (λ (xs : List Step). whole xs rest.decision) (sym (append_assoc steps (one ∷ []) rest.steps))

module _ (search : Search) (nodes : List Node) (order : AreNodes [] nodes) (index : ℕ) (node : Node) (inside : index < length nodes)
    (at : node ≡ slice_index_or nodes index node) where
  abbrev known : List (List PathValue)
  known = walks_of nodes

  abbrev edges : List Edge
  edges = node.edges.items

  abbrev GoodFrom : List PathValue → ℕ → RunValue → Type 0
  GoodFrom walks state run = GoodAlong (may_answer search.known.now) search.query.now walks state run

  onward : walks_to known (At index) ≡ walks_at known node
  onward = walks-node nodes order index node inside at

  pub edges-within : (count : ℕ) → count ≡ length nodes → AreWithin count edges
  edges-within count is =
      subst (λ (n : ℕ). AreWithin n edges) (sym is)
      (AreAbove-within nodes node.module_number edges (node-valid nodes order index node inside at).later)

  module _ (state left : ℕ) (least : IsLeastFrom search (walks_to known (At index)) state left) (below : left < FAR) where
    here : IsLeastFrom search (walks_at known node) state left
    here = subst (λ (walks : List PathValue). IsLeastFrom search walks state left) onward least

    pub asks-one : 1 ≤ left
    asks-one =
        let r = here.reached below in
        let b = by-edges (may_answer search.known.now) search.query.now known node.module_number state edges r.0 r.1 in
        let size : length r.0.steps ≡ length b.rest.steps + 1 = ap (λ (run : RunValue). length run.steps) b.is_run ∙ omega arith in
        omega (arith, size, r.2)

    after_one : IsLeastFrom search (walks_at known node) state ((left - 1) + 1)
    after_one = subst (λ (n : ℕ). IsLeastFrom search (walks_at known node) state n) (omega (arith, asks-one)) here

    -- some answer is a choice
    pub some-choice : ((choice : Choice) → IsChoice search known node.module_number state (left - 1) edges choice → ⊥) → ⊥
    some-choice none =
        let r = here.reached below in
        let b = by-edges (may_answer search.known.now) search.query.now known node.module_number state edges r.0 r.1 in
        none (record { code = b.by.code; target = b.edge.target; state = b.by.good.next })
        (choice-of search known node.module_number state (left - 1) edges after_one r.0 b (omega (arith, r.2, asks-one)))

    pub first-onward : AreApart nodes → (choice : Choice) → IsFirstChoice search known node.module_number state (left - 1) edges (Some choice) →
        (rest : RunValue) → IsFirst (GoodFrom (walks_to known choice.target) choice.state) rest →
        IsFirst (GoodFrom (walks_to known (At index)) state) (after_answer node.module_number choice.code rest)
    first-onward apart choice is rest h =
        let member = member-at nodes index node inside at in
        subst (λ (walks : List PathValue). IsFirst (GoodFrom walks state) (after_answer node.module_number choice.code rest)) (sym onward)
        (first-step search known node.module_number state (left - 1) edges after_one choice is.0 is.1 (omega (arith, below)) (apart node member) rest
        (subst (λ (t : Target). IsFirst (GoodFrom (walks_to known t) choice.state) rest) is.0.at.leads h))

-- NO STEPS

pub steps-none : (run : RunValue) → after_steps [] run ≡ run
steps-none run = refl

pub steps-end : (steps : List Step) (decision : ℕ) → after_steps steps (whole [] decision) ≡ whole steps decision
steps-end steps decision = ap (λ (xs : List Step). whole xs decision) (append-nil steps)
