-- The least number of modules that runs ask.
use Rattle.std.proofs.Common.{◌≡◌, ℕ, true, false, List, [], ◌∷◌, inl, inr, refl, sym, ◌∙◌, ap, subst, arith, None, Some}
use Rattle.std.proofs.lemmas.Bool.{false≢true}
use Rattle.pam_graph.specs.declared.node.Target.TheVariants.{End}
use Rattle.pam_graph.specs.Walks.{walks_to}
use Rattle.pam_paths.specs.Listing.{Allowance}
use Rattle.pam_paths.specs.Paths.{PathValue}
use Rattle.pam_text.specs.Members.{Member}
use Rattle.pam_policy.specs.declared.search.distances.TheConstants.{FAR}
use Rattle.pam_policy.specs.declared.search.query.Query.{Query}
use Rattle.pam_policy.specs.declared.search.run.Step.{Step}
use Rattle.pam_policy.specs.search.inner.Distances.{AreChosen, GoodAfter, GoodAlong, IsDistance, IsLeast}
use Rattle.pam_policy.specs.search.inner.Monitor.{EndsWell, after, is_good}
use Rattle.pam_policy.specs.search.Runs.{RunValue}

pub least-none : (Such : RunValue → Type 0) (n : ℕ) → n ≡ FAR → ((run : RunValue) → Such run → ⊥) → IsLeast Such n
least-none Such n e none = record { least = λ run h. absurd (none run h); reached = λ l. absurd (omega (arith, l, e)) }

pub least-same : (One Other : RunValue → Type 0) (n : ℕ) → ((run : RunValue) → One run → Other run) → ((run : RunValue) → Other run → One run) →
    IsLeast One n → IsLeast Other n
least-same One Other n to back h = record {
  least = λ run k. h.least run (back run k);
  reached = λ l. let r = h.reached l in (r.0, to r.0 r.1, r.2);
}

-- AT THE END OF A WALK

module _ (allows : Allowance) (query : Query) (known : List (List PathValue)) (state decision : ℕ) where
  abbrev pub ended : RunValue
  ended = record { steps = []; decision = decision }

  pub ended-good : is_good query state decision ≡ true → GoodAlong allows query (walks_to known (End decision)) state ended
  unfolding Member AreChosen EndsWell
  ended-good good = record { walk = record { steps = []; decision = decision }; member = inl refl; chosen = tt; decides = refl; good = good }

  pub end-good : is_good query state decision ≡ true → IsDistance allows query (walks_to known (End decision)) state 0
  end-good good = record { least = λ run h. omega arith; reached = λ l. (ended, ended-good good, refl) }

  -- a run along a walk without steps has none
  no-steps : (walk : PathValue) (steps : List Step) → walk ≡ record { steps = []; decision = decision } → AreChosen allows walk.steps steps → steps ≡ []
  unfolding AreChosen
  no-steps walk [] is chosen = refl
  no-steps walk (step ∷ steps) is chosen =
      let none : AreChosen allows [] (step ∷ steps) = subst (λ (p : PathValue). AreChosen allows p.steps (step ∷ steps)) is chosen in absurd none

  abbrev with_decision : List Step → ℕ → RunValue
  with_decision steps d = record { steps = steps; decision = d }

  abbrev steps_only : List Step → RunValue
  steps_only steps = with_decision steps decision

  -- there is only the run without steps
  pub end-only : (run : RunValue) → GoodAlong allows query (walks_to known (End decision)) state run → run ≡ ended
  unfolding Member
  end-only run h =
      elim h.member [
        | inl e ↦
            let decides : run.decision ≡ decision = h.decides ∙ ap (λ (p : PathValue). p.decision) e in
            ap (λ (d : ℕ). with_decision run.steps d) decides ∙ ap steps_only (no-steps h.walk run.steps e h.chosen)
        | inr i ↦ absurd i
      ]

  record IsGood (run : RunValue) : Type 0 where
    pub good : EndsWell query state run.steps run.decision

  pub end-run : (run : RunValue) → GoodAlong allows query (walks_to known (End decision)) state run → is_good query state decision ≡ true
  unfolding EndsWell
  end-run run h = (subst (λ (r : RunValue). IsGood r) (end-only run h) (record { good = h.good })).good

  pub end-not : (n : ℕ) → n ≡ FAR → is_good query state decision ≡ false → IsDistance allows query (walks_to known (End decision)) state n
  end-not n far bad = least-none _ n far (λ run h. false≢true (sym bad ∙ end-run run h))

-- AFTER AN ANSWER

module _ (allows : Allowance) (query : Query) (walks : List PathValue) (number code state : ℕ) where
  pub after-next : (next n : ℕ) → after query number code state ≡ Some next → IsDistance allows query walks next n →
      IsLeast (GoodAfter allows query walks number code state) n
  after-next next n is h =
      least-same _ _ n (λ run g. record { next = next; is_next = is; good = g })
      (λ run k.
      let same : k.next ≡ next = let e : Some k.next ≡ Some next = sym k.is_next ∙ is in cc in
      subst (λ (s : ℕ). GoodAlong allows query walks s run) same k.good) h

  pub after-none : (n : ℕ) → n ≡ FAR → after query number code state ≡ None → IsLeast (GoodAfter allows query walks number code state) n
  after-none n far is = least-none _ n far (λ run k. let e : Some k.next ≡ None = sym k.is_next ∙ is in absurd (let x : ⊥ = cc in x))
