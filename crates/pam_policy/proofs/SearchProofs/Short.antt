-- A walk has no more steps than a stack has modules.
use Rattle.std.proofs.Common.{◌≡◌, ℕ, ◌+◌, ◌<◌, ◌≤◌, List, [], ◌∷◌, inl, inr, refl, sym, ◌∙◌, ap, subst, arith, get_or, length, suc, zero}
use Rattle.std.proofs.lemmas.List.{length-map}
use Rattle.pam_graph.specs.declared.node.Edge.{Edge}
use Rattle.pam_graph.specs.declared.node.Node.{Node}
use Rattle.pam_graph.specs.declared.node.Target.{Target}
use Rattle.pam_graph.specs.declared.node.Target.TheVariants.{At, End}
use Rattle.pam_graph.specs.Order.{AreAbove, AreNodes, IsAbove, number_of, numbers_of}
use Rattle.pam_graph.specs.Walks.{walks_by, walks_of, walks_to}
use Rattle.pam_graph.proofs.Sides.{node-valid, number-at, walks-node}
use Rattle.pam_paths.specs.Computed.{after_step}
use Rattle.pam_paths.specs.Listing.{Allowance}
use Rattle.pam_paths.specs.Paths.{PathValue, StepValue}
use Rattle.pam_paths.proofs.Listings.{Member-map_back}
use Rattle.pam_text.specs.Members.{Member}
use Rattle.pam_policy.specs.declared.search.query.Query.{Query}
use Rattle.pam_policy.specs.declared.search.run.Step.{Step}
use Rattle.pam_policy.specs.search.inner.Distances.{AreChosen, GoodAlong}
use Rattle.pam_policy.specs.search.Runs.{RunValue}
use Rattle.pam_policy.proofs.SearchProofs.Choosing.{Member-flat_back}

item-at : {X : Type 0} (xs : List X) (i : ℕ) → i < length xs → (x : X) × (x ≡ get_or xs i x)
item-at [] i l = absurd (omega (arith, l))
item-at (x ∷ xs) zero l = (x, refl)
item-at (x ∷ xs) (suc i) l = item-at xs i (omega (arith, l))

above-member : (numbers : List ℕ) (low : ℕ) (edges : List Edge) (edge : Edge) → AreAbove numbers low edges → Member edge edges → IsAbove numbers low edge.target
unfolding Member AreAbove
above-member numbers low [] edge h i = absurd i
above-member numbers low (x ∷ edges) edge h (inl e) = subst (λ (y : Edge). IsAbove numbers low y.target) (sym e) h.0
above-member numbers low (x ∷ edges) edge h (inr i) = above-member numbers low edges edge h.1 i

-- what comes after the first step
rest-steps : (walk rest : PathValue) (first step : StepValue) (steps : List StepValue) → walk ≡ after_step first rest → walk.steps ≡ step ∷ steps →
    rest.steps ≡ steps
rest-steps walk rest first step steps e is =
    let whole : first ∷ rest.steps ≡ step ∷ steps = sym (ap (λ (p : PathValue). p.steps) e) ∙ is in cc

module _ (nodes : List Node) (order : AreNodes [] nodes) where
  abbrev known : List (List PathValue)
  known = walks_of nodes

  ended-none : (decision : ℕ) (walk : PathValue) (step : StepValue) (steps : List StepValue) → Member walk (walks_to known (End decision)) →
      walk.steps ≡ step ∷ steps → ⊥
  unfolding Member
  ended-none decision walk step steps i is =
      elim i [
        | inl e ↦ let none : [] ≡ step ∷ steps = sym (ap (λ (p : PathValue). p.steps) e) ∙ is in let k : ⊥ = cc in k
        | inr none ↦ none
      ]

  -- the numbers of the modules that a walk asks rise
  walk-short : (steps : List StepValue) (low : ℕ) (target : Target) (walk : PathValue) → IsAbove (numbers_of nodes) low target → low ≤ 256 →
      Member walk (walks_to known target) → walk.steps ≡ steps → low + length steps ≤ 256
  walk-short [] low target walk above few i is = omega (arith, few)
  walk-short (step ∷ steps) low (End decision) walk above few i is = absurd (ended-none decision walk step steps i is)
  walk-short (step ∷ steps) low (At index) walk above few i is =
      let inside : index < length nodes = omega (arith, above.0, length-map nodes number_of) in
      let found = item-at nodes index inside in
      let node = found.0 in
      let valid = node-valid nodes order index node inside found.1 in
      let number = number-at nodes order index node inside found.1 in
      let back = Member-flat_back (walks_by known node.module_number) node.edges.items walk
      (subst (Member walk) (walks-node nodes order index node inside found.1) i) in
      let from : StepValue = record { module_number = node.module_number; class = back.0.class } in
      let before = Member-map_back (after_step from) walk (walks_to known back.0.target) back.2 in
      let same = rest-steps walk before.0 from step steps before.2 is in
      let more = walk-short steps node.module_number back.0.target before.0
      (above-member (numbers_of nodes) node.module_number node.edges.items back.0 valid.later back.1) valid.last before.1 same in
      omega (arith, above.1, number, more)

  chosen-length : (allows : Allowance) (walk : List StepValue) (steps : List Step) → AreChosen allows walk steps → length steps ≡ length walk
  unfolding AreChosen
  chosen-length allows [] [] h = refl
  chosen-length allows [] (step ∷ steps) h = absurd h
  chosen-length allows (from ∷ walk) [] h = absurd h
  chosen-length allows (from ∷ walk) (step ∷ steps) h = let rest = chosen-length allows walk steps h.2 in omega (arith, rest)

  pub good-short : (allows : Allowance) (query : Query) (start : Target) (state : ℕ) (run : RunValue) → IsAbove (numbers_of nodes) 0 start →
      GoodAlong allows query (walks_to known start) state run → length run.steps ≤ 256
  good-short allows query start state run above g =
      let short = walk-short g.walk.steps 0 start g.walk above (omega arith) g.member refl in
      omega (arith, short, chosen-length allows g.walk.steps run.steps g.chosen)
