-- The first of the runs that ask the fewest modules, from a node on.
use Rattle.std.proofs.Common.{◌≡◌, ℕ, ◌+◌, ◌<◌, ◌≤◌, true, List, ◌⊎◌, inl, inr, refl, sym, ◌∙◌, ap, subst, arith, length, Some}
use Rattle.std.proofs.lemmas.Bool.{cases_lt}
use Rattle.std.specs.List.{flat_map}
use Rattle.pam_codes.specs.Set.{is_in}
use Rattle.pam_graph.specs.declared.node.Edge.{Edge}
use Rattle.pam_graph.specs.declared.node.Target.TheVariants.{End}
use Rattle.pam_graph.specs.Walks.{walks_by, walks_to}
use Rattle.pam_paths.specs.Known.{may_answer}
use Rattle.pam_paths.specs.Listing.{Allowance}
use Rattle.pam_paths.specs.Paths.{PathValue}
use Rattle.pam_text.specs.Members.{Member}
use Rattle.pam_policy.specs.declared.search.distances.Search.{Search}
use Rattle.pam_policy.specs.declared.search.distances.TheConstants.{FAR}
use Rattle.pam_policy.specs.declared.search.query.Query.{Query}
use Rattle.pam_policy.specs.declared.search.run.Step.{Step}
use Rattle.pam_policy.specs.declared.search.walking.Choice.{Choice}
use Rattle.pam_policy.specs.search.inner.Choices.{IsChoice}
use Rattle.pam_policy.specs.search.inner.Distances.{GoodAlong, GoodBy, IsFirst, IsLeast, after_answer}
use Rattle.pam_policy.specs.search.inner.Monitor.{after, is_good}
use Rattle.pam_policy.specs.search.Runs.{ComesBefore, RunValue, rank}
use Rattle.pam_policy.proofs.SearchProofs.Choosing.{ByEdges, by-edge, by-edges}
use Rattle.pam_policy.proofs.SearchProofs.Distances.{end-only, end-run, ended, ended-good}
use Rattle.pam_policy.proofs.SearchProofs.Ranks.{rank-same}

-- runs that are the same have the same first
pub first-same : (One Other : RunValue → Type 0) (run : RunValue) → ((r : RunValue) → One r → Other r) → ((r : RunValue) → Other r → One r) →
    IsFirst One run → IsFirst Other run
first-same One Other run to back h = record {
  such = to run h.such;
  fewest = λ other k. h.fewest other (back other k);
  first = λ other k same. h.first other (back other k) same;
}

-- THE FIRST RUN BY SOME EDGES

module _ (search : Search) (known : List (List PathValue)) (number state distance : ℕ) (edges : List Edge) where
  abbrev allows : Allowance
  allows = may_answer search.known.now

  abbrev query : Query
  query = search.query.now

  abbrev Such : RunValue → Type 0
  Such run = GoodAlong allows query (flat_map (walks_by known number) edges) state run

  -- no answer is in the classes of two of the edges
  abbrev Apart : Type 0
  Apart = (one other : Edge) → Member one edges → Member other edges → (code : ℕ) → is_in code one.class ≡ true → is_in code other.class ≡ true → one ≡ other

  module _ (least : IsLeast Such (distance + 1)) where
    -- the first answer of a run that asks no more modules is a choice
    abbrev chosen_by : (run : RunValue) → ByEdges allows query known number state edges run → Choice
    chosen_by run b = record { code = b.by.code; target = b.edge.target; state = b.by.good.next }

    pub choice-of : (run : RunValue) (b : ByEdges allows query known number state edges run) → length run.steps ≡ distance + 1 →
        IsChoice search known number state distance edges (chosen_by run b)
    choice-of run b long = record {
      edge = b.edge;
      edge_in = b.edge_in;
      chosen = b.by.chosen;
      at = record {
        same_code = refl;
        leads = refl;
        is_next = b.by.good.is_next;
        is_distance = record {
          least = λ rest good.
              let by : GoodBy allows query known number state b.edge rest = record {
                code = b.by.code;
                chosen = b.by.chosen;
                good = record { next = b.by.good.next; is_next = b.by.good.is_next; good = good };
              } in
              let more = least.least (after_answer number b.by.code rest) (by-edge allows query known number state edges b.edge rest by b.edge_in) in
              omega (arith, more);
          reached = λ l. (
            b.rest,
            b.by.good.good,
            let same : length run.steps ≡ length b.rest.steps + 1 = ap (λ (r : RunValue). length r.steps) b.is_run ∙ omega arith in omega (arith, same, long),
          );
        };
      };
    }

    module _ (choice : Choice) (is : IsChoice search known number state distance edges choice)
        (first : (other : Choice) → IsChoice search known number state distance edges other → rank choice.code ≤ rank other.code)
        (below : distance < FAR) (apart : Apart) where
      abbrev Rest : RunValue → Type 0
      Rest rest = GoodAlong allows query (walks_to known is.edge.target) choice.state rest

      by-choice : (rest : RunValue) → Rest rest → GoodBy allows query known number state is.edge rest
      by-choice rest good =
          record { code = choice.code; chosen = is.chosen; good = record { next = choice.state; is_next = is.at.is_next; good = good } }

      rest-long : (rest : RunValue) → IsFirst Rest rest → length rest.steps ≡ distance
      rest-long rest h =
          let reached = is.at.is_distance.reached below in
          omega (arith, h.fewest reached.0 reached.1, reached.2, is.at.is_distance.least rest h.such)

      -- a run whose first answer is the same goes on in the same way
      same-way : (run : RunValue) (b : ByEdges allows query known number state edges run) → choice.code ≡ b.by.code → Rest b.rest
      same-way run b e =
          let edge : is.edge ≡ b.edge =
          apart is.edge b.edge is.edge_in b.edge_in choice.code is.chosen.among (subst (λ (c : ℕ). is_in c b.edge.class ≡ true) (sym e) b.by.chosen.among) in
          let next : Some choice.state ≡ Some b.by.good.next =
          sym is.at.is_next ∙ ap (λ (c : ℕ). after query number c state) e ∙ b.by.good.is_next in
          let same : b.by.good.next ≡ choice.state = cc in
          subst (λ (s : ℕ). GoodAlong allows query (walks_to known is.edge.target) s b.rest) same
          (subst (λ (x : Edge). GoodAlong allows query (walks_to known x.target) b.by.good.next b.rest) (sym edge) b.by.good.good)

      abbrev Shown : RunValue → RunValue → Type 0
      Shown run other = (run ≡ other) ⊎ ComesBefore run.steps other.steps

      abbrev step : ℕ → Step
      step code = record { module_number = number; code = code }

      shown-first : (rest : RunValue) → IsFirst Rest rest → (run : RunValue) (b : ByEdges allows query known number state edges run) →
          length b.rest.steps ≡ length rest.steps → rank choice.code ≤ rank b.by.code →
          Shown (after_answer number choice.code rest) (after_answer number b.by.code b.rest)
      unfolding ComesBefore
      shown-first rest h run b long low =
          elim (cases_lt (rank choice.code) (rank b.by.code)) [
            | inl l ↦ inr (inl l)
            | inr l ↦
                let e : choice.code ≡ b.by.code = rank-same choice.code b.by.code (omega (arith, l, low)) in
                elim (h.first b.rest (same-way run b e) long) [
                  | inl same ↦ inl (ap (after_answer number choice.code) same ∙ ap (λ (c : ℕ). after_answer number c b.rest) e)
                  | inr before ↦ inr (inr (ap step e, before))
                ]
          ]

      pub first-step : (rest : RunValue) → IsFirst Rest rest → IsFirst Such (after_answer number choice.code rest)
      unfolding by-choice
      first-step rest h =
          let long = rest-long rest h in
          record {
            such = by-edge allows query known number state edges is.edge rest (by-choice rest h.such) is.edge_in;
            fewest = λ other k. omega (arith, long, least.least other k);
            first = λ other k same.
                let b = by-edges allows query known number state edges other k in
                let size : length other.steps ≡ length b.rest.steps + 1 = ap (λ (r : RunValue). length r.steps) b.is_run ∙ omega arith in
                let low = first (chosen_by other b) (choice-of other b (omega (arith, same, long))) in
                subst (Shown (after_answer number choice.code rest)) (sym b.is_run) (shown-first rest h other b (omega (arith, size, same)) low);
          }

-- AT THE END OF A WALK

module _ (allows : Allowance) (query : Query) (known : List (List PathValue)) (state decision distance : ℕ)
    (least : IsLeast (GoodAlong allows query (walks_to known (End decision)) state) distance) (below : distance < FAR) where
  pub end-first : IsFirst (GoodAlong allows query (walks_to known (End decision)) state) (ended allows query known state decision)
  end-first =
      let reached = least.reached below in
      let good : is_good query state decision ≡ true = end-run allows query known state decision reached.0 reached.1 in
      record {
        such = ended-good allows query known state decision good;
        fewest = λ other k. omega arith;
        first = λ other k same. inl (sym (end-only allows query known state decision other k));
      }
