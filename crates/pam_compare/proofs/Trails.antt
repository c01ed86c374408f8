-- Steps on the way to a node.
use Rattle.std.proofs.Common.{◌≡◌, ◌⊎◌, ◌<◌, ◌∙◌, ◌≢◌, ℕ, true, false, cond, eqb, eq-eqb, List, [], ◌∷◌, Option, Some, ap, arith, inl, inr, refl, sym, subst}
use Rattle.std.specs.Prelude.{slice_get, slice_index_or}
use Rattle.std.proofs.lemmas.Bool.{cases_eq}
use Rattle.pam_codes.specs.Code.{all_codes}
use Rattle.pam_codes.specs.Set.{is_in}
use Rattle.pam_dispatch.specs.Runs.{Assignment}
use Rattle.pam_compare.specs.declared.held.HeldAnswer.{HeldAnswer}
use Rattle.pam_compare.specs.declared.nodes.Way.{Way}
use Rattle.pam_compare.specs.inner.Trails.{IsCovered, IsKept, IsPast, IsSettled, IsTrail, Follows, answers_on, with_answer}

some-way : (v w : Way) → Some v ≡ Some w → v ≡ w
some-way v w e = cc

-- ways that stay leave a trail as it is
pub trail-kept : (ways more : List Way) (k : ℕ) (trail : List Way) → ((i : ℕ) (w : Way) → slice_get ways i ≡ Some w → slice_get more i ≡ Some w) →
    IsTrail ways k trail → IsTrail more k trail
unfolding IsTrail
trail-kept ways more k [] keeps t = t
trail-kept ways more k (w ∷ trail) keeps t = (t.0, keeps k w t.1, t.2, trail-kept ways more w.parent trail keeps t.3)

-- a node has one trail
pub one-trail : (ways : List Way) (k : ℕ) (trail other : List Way) → IsTrail ways k trail → IsTrail ways k other → trail ≡ other
unfolding IsTrail
one-trail ways k [] [] t u = refl
one-trail ways k [] (v ∷ other) t u = absurd (omega (arith, t, u.0))
one-trail ways k (w ∷ trail) [] t u = absurd (omega (arith, u, t.0))
one-trail ways k (w ∷ trail) (v ∷ other) t u =
    let same : w ≡ v = some-way w v (sym t.1 ∙ u.1) in
    let rest : trail ≡ other = one-trail ways w.parent trail other t.3 (subst (λ (x : Way). IsTrail ways x.parent other) (sym same) u.3) in
    cc

pub with-same : (a : Assignment) (name code n : ℕ) → n ≡ name → with_answer a name code n ≡ code
with-same a name code n e = ap (λ t. cond t code (a n)) (eq-eqb n name e)

pub with-other : (a : Assignment) (name code n : ℕ) → n ≢ name → with_answer a name code n ≡ a n
with-other a name code n e = let t : eqb n name ≡ false = search (arith, e) in ap (λ t. cond t code (a n)) t

-- a code that does for each step of its name
abbrev pub Suits : ℕ → ℕ → List Way → Type 0
Suits name code [] = Unit {0}
Suits name code (w ∷ trail) = (w.name ≡ name → is_in code w.class ≡ true) × Suits name code trail

pub follows-with : (a : Assignment) (name code : ℕ) (trail : List Way) → Follows a trail → Suits name code trail → Follows (with_answer a name code) trail
unfolding Follows
follows-with a name code [] f s = tt
follows-with a name code (w ∷ trail) f s = (
  elim (cases_eq w.name name) [
    | inl same ↦ subst (λ (n : ℕ). is_in n w.class ≡ true) (sym (with-same a name code w.name same)) (s.0 same)
    | inr other ↦ subst (λ (n : ℕ). is_in n w.class ≡ true) (sym (with-other a name code w.name other)) f.0
  ],
  follows-with a name code trail f.1 s.1,
)

-- the answers of a trail follow it, one step longer
pub follows-longer : (base : Assignment) (w : Way) (trail : List Way) → Follows (answers_on base trail) trail → is_in w.code w.class ≡ true →
    Suits w.name w.code trail → Follows (answers_on base (w ∷ trail)) (w ∷ trail)
unfolding Follows answers_on
follows-longer base w trail f member s = (
  subst (λ (n : ℕ). is_in n w.class ≡ true) (sym (with-same (answers_on base trail) w.name w.code w.name refl)) member,
  follows-with (answers_on base trail) w.name w.code trail f s,
)

module _ (possible : List (List ℕ)) (names : List ℕ) (count modules : ℕ) where
  -- a code that what is held leaves to a module that is asked does for each step of its name
  pub covered-suits : (held : List HeldAnswer) (old new : Option ℕ) (name code : ℕ) (trail : List Way) →
      ((i : ℕ) (h : HeldAnswer) → slice_get held i ≡ Some h → h.name ≡ name → is_in code h.codes ≡ true) →
      (IsPast names count modules name old new → ⊥) → code < 31 → is_in code (slice_index_or possible name all_codes) ≡ true →
      IsCovered possible names count modules held old new trail → Suits name code trail
  unfolding IsCovered
  covered-suits held old new name code [] leaves ahead low can c = tt
  covered-suits held old new name code (w ∷ trail) leaves ahead low can c = (
    λ same. elim c.0 [
      | inl k ↦ k.4 code (leaves k.0 k.1 k.2 (k.3 ∙ same))
      | inr settled ↦ elim settled [
        | inl all ↦ all code low (subst (λ (n : ℕ). is_in code (slice_index_or possible n all_codes) ≡ true) (sym same) can)
        | inr past ↦ absurd (ahead (subst (λ (n : ℕ). IsPast names count modules n old new) same past))
      ]
    ],
    covered-suits held old new name code trail leaves ahead low can c.1,
  )

  -- steps stay covered after an answer of this class
  module _ (held after : List HeldAnswer) (old new old' new' : Option ℕ) (answer : HeldAnswer)
      (keeps : (i : ℕ) (h : HeldAnswer) → slice_get held i ≡ Some h → h.name ≢ answer.name →
      ((k : ℕ) × (slice_get after k ≡ Some h)) ⊎ IsPast names count modules h.name old' new')
      (adds : ((k : ℕ) × (slice_get after k ≡ Some answer)) ⊎ IsSettled possible names count modules answer.name answer.codes old' new')
      (narrows : (i : ℕ) (h : HeldAnswer) → slice_get held i ≡ Some h → h.name ≡ answer.name → (c : ℕ) → is_in c answer.codes ≡ true → is_in c h.codes ≡ true)
      (stays : (name : ℕ) → IsPast names count modules name old new → IsPast names count modules name old' new') where
    -- what is possible for the name of a step is possible for that of the answer
    can-answer : (w : Way) → w.name ≡ answer.name → (c : ℕ) → is_in c (slice_index_or possible w.name all_codes) ≡ true →
        is_in c (slice_index_or possible answer.name all_codes) ≡ true
    can-answer w same c can = subst (λ (n : ℕ). is_in c (slice_index_or possible n all_codes) ≡ true) same can

    step-covered : (w : Way) → IsKept held w ⊎ IsSettled possible names count modules w.name w.class old new →
        IsKept after w ⊎ IsSettled possible names count modules w.name w.class old' new'
    step-covered w (inr settled) = elim settled [ inl all ↦ inr (inl all) | inr past ↦ inr (inr (stays w.name past)) ]
    step-covered w (inl k) =
        elim (cases_eq k.1.name answer.name) [
          | inl same ↦ elim adds [
            | inl there ↦ inl (there.0, answer, there.1, sym same ∙ k.3, λ c member. k.4 c (narrows k.0 k.1 k.2 same c member))
            | inr settled ↦ elim settled [
              | inl all ↦ inr (inl (λ c low can. k.4 c (narrows k.0 k.1 k.2 same c (all c low (can-answer w (sym k.3 ∙ same) c can)))))
              | inr past ↦ inr (inr (subst (λ (n : ℕ). IsPast names count modules n old' new') (sym same ∙ k.3) past))
            ]
          ]
          | inr other ↦ elim (keeps k.0 k.1 k.2 other) [
            | inl there ↦ inl (there.0, k.1, there.1, k.3, k.4)
            | inr past ↦ inr (inr (subst (λ (n : ℕ). IsPast names count modules n old' new') k.3 past))
          ]
        ]

    pub still-covered : (trail : List Way) → IsCovered possible names count modules held old new trail →
        IsCovered possible names count modules after old' new' trail
    unfolding IsCovered
    still-covered [] c = tt
    still-covered (w ∷ trail) c = (step-covered w c.0, still-covered trail c.1)

    pub longer-covered : (w : Way) (trail : List Way) → w.name ≡ answer.name → w.class ≡ answer.codes →
        IsCovered possible names count modules held old new trail → IsCovered possible names count modules after old' new' (w ∷ trail)
    unfolding IsCovered
    longer-covered w trail name class c = (
      elim adds [
        | inl there ↦ inl (there.0, answer, there.1, sym name, λ x member. subst (λ (s : List ℕ). is_in x s ≡ true) (sym class) member)
        | inr settled ↦ elim settled [
          | inl all ↦ inr (inl (λ x low can. subst (λ (s : List ℕ). is_in x s ≡ true) (sym class) (all x low (can-answer w name x can))))
          | inr past ↦ inr (inr (subst (λ (n : ℕ). IsPast names count modules n old' new') (sym name) past))
        ]
      ],
      still-covered trail c,
    )

-- a trail that is not at its start has a last step
pub trail-step : (ways : List Way) (k : ℕ) (trail : List Way) → 0 < k → IsTrail ways k trail →
    (w : Way) × (rest : List Way) × (slice_get ways k ≡ Some w) × (w.parent < k) × IsTrail ways w.parent rest × (trail ≡ w ∷ rest)
unfolding IsTrail
trail-step ways k [] positive t = absurd (omega (arith, positive, t))
trail-step ways k (w ∷ trail) positive t = (w, trail, t.1, t.2, t.3, refl)

-- and one at its start has none
pub trail-start : (ways trail : List Way) → IsTrail ways 0 trail → trail ≡ []
unfolding IsTrail
trail-start ways [] t = refl
trail-start ways (w ∷ trail) t = absurd (omega (arith, t.0))
