-- The runs from a node on are those by its edges, each after an answer.
use Rattle.std.proofs.Common.{◌≡◌, ℕ, List, [], ◌∷◌, inl, inr, refl, ◌∙◌, ap, subst, Some}
use Rattle.std.specs.List.{flat_map}
use Rattle.pam_graph.specs.declared.node.Edge.{Edge}
use Rattle.pam_graph.specs.Walks.{walks_by, walks_to}
use Rattle.pam_paths.specs.Computed.{after_step}
use Rattle.pam_paths.specs.Listing.{Allowance}
use Rattle.pam_paths.specs.Paths.{PathValue, StepValue}
use Rattle.pam_paths.proofs.Listings.{Member-cases, Member-left, Member-map, Member-map_back, Member-right}
use Rattle.pam_text.specs.Members.{Member}
use Rattle.pam_policy.specs.declared.search.query.Query.{Query}
use Rattle.pam_policy.specs.declared.search.run.Step.{Step}
use Rattle.pam_policy.specs.search.inner.Distances.{AreChosen, GoodAlong, GoodBy, after_answer}
use Rattle.pam_policy.specs.search.inner.Monitor.{EndsWell, after}
use Rattle.pam_policy.specs.search.Runs.{RunValue}

Member-flat : (f : Edge → List PathValue) (edges : List Edge) (edge : Edge) (walk : PathValue) → Member edge edges → Member walk (f edge) →
    Member walk (flat_map f edges)
unfolding Member
Member-flat f [] edge walk h m = absurd h
Member-flat f (x ∷ edges) edge walk (inl e) m = Member-left walk (f x) (flat_map f edges) (subst (λ (y : Edge). Member walk (f y)) e m)
Member-flat f (x ∷ edges) edge walk (inr i) m = Member-right walk (f x) (flat_map f edges) (Member-flat f edges edge walk i m)

pub Member-flat_back : (f : Edge → List PathValue) (edges : List Edge) (walk : PathValue) → Member walk (flat_map f edges) →
    (edge : Edge) × Member edge edges × Member walk (f edge)
unfolding Member
Member-flat_back f [] walk h = absurd h
Member-flat_back f (x ∷ edges) walk h =
    elim (Member-cases walk (f x) (flat_map f edges) h) [
      | inl i ↦ (x, inl refl, i)
      | inr i ↦ let back = Member-flat_back f edges walk i in (back.0, inr back.1, back.2)
    ]

module _ (allows : Allowance) (query : Query) (known : List (List PathValue)) (number state : ℕ) where
  -- A RUN BY ONE OF SOME EDGES
  pub record ByEdges (edges : List Edge) (run : RunValue) : Type 0 where
    pub edge : Edge
    pub edge_in : Member edge edges
    pub rest : RunValue
    pub by : GoodBy allows query known number state edge rest
    pub is_run : run ≡ after_answer number by.code rest

  pub by-edge : (edges : List Edge) (edge : Edge) (rest : RunValue) (by : GoodBy allows query known number state edge rest) → Member edge edges →
      GoodAlong allows query (flat_map (walks_by known number) edges) state (after_answer number by.code rest)
  unfolding AreChosen EndsWell
  by-edge edges edge rest by i =
      let from : StepValue = record { module_number = number; class = edge.class } in
      let good = by.good.good in
      record {
        walk = after_step from good.walk;
        member = Member-flat (walks_by known number) edges edge (after_step from good.walk) i
            (Member-map (after_step from) good.walk (walks_to known edge.target) good.member);
        chosen = (refl, by.chosen, good.chosen);
        decides = good.decides;
        good = (by.good.next, by.good.is_next, good.good);
      }

  abbrev whole : List Step → ℕ → RunValue
  whole steps decision = record { steps = steps; decision = decision }

  -- the first step is by an edge
  by-first : (edges : List Edge) (edge : Edge) → Member edge edges → (walk : PathValue) → Member walk (walks_to known edge.target) →
      (steps : List Step) (decision : ℕ) → AreChosen allows (record { module_number = number; class = edge.class } ∷ walk.steps) steps →
      decision ≡ walk.decision → EndsWell query state steps decision → ByEdges edges (whole steps decision)
  unfolding AreChosen EndsWell
  by-first edges edge i walk member [] decision chosen decides good = absurd chosen
  by-first edges edge i walk member (step ∷ steps) decision chosen decides good =
      let is_next : after query number step.code state ≡ Some good.0 =
      subst (λ (n : ℕ). after query n step.code state ≡ Some good.0) chosen.0 good.1 in
      record {
        edge = edge;
        edge_in = i;
        rest = whole steps decision;
        by = record {
          code = step.code;
          chosen = chosen.1;
          good = record {
            next = good.0;
            is_next = is_next;
            good = record { walk = walk; member = member; chosen = chosen.2; decides = decides; good = good.2 };
          };
        };
        is_run = ap (λ (n : ℕ). whole (record { module_number = n; code = step.code } ∷ steps) decision) chosen.0;
      }

  pub by-edges : (edges : List Edge) (run : RunValue) → GoodAlong allows query (flat_map (walks_by known number) edges) state run → ByEdges edges run
  by-edges edges run h =
      let back = Member-flat_back (walks_by known number) edges h.walk h.member in
      let from : StepValue = record { module_number = number; class = back.0.class } in
      let before = Member-map_back (after_step from) h.walk (walks_to known back.0.target) back.2 in
      by-first edges back.0 back.1 before.0 before.1 run.steps run.decision
      (subst (λ (p : PathValue). AreChosen allows p.steps run.steps) before.2 h.chosen)
      (h.decides ∙ ap (λ (p : PathValue). p.decision) before.2) h.good
