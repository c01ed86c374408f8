-- The offered codes, computed part by part of a control.
use Rattle.std.proofs.Common.{◌≡◌, ℕ, ◌+◌, ◌<◌, ◌≤◌, ◌==◌, ◌&&◌, ◌||◌, Bool, true, false, List, [], ◌∷◌, cond, refl, sym, ◌∙◌, ap, subst, inl}
use Rattle.std.proofs.Common.{inr, arith, length, take, get_or, Option, Some, None}
use Rattle.std.specs.Prelude.{All, IfSome, IsSome, IsTrue, slice_get}
use Rattle.std.specs.Option.{option_map_or}
use Rattle.std.specs.List.{list_any}
use Rattle.std.proofs.lemmas.Bool.{and_from, and_parts, cases_Bool, cond-false, cond-true, eq-eqb, false≢true}
use Rattle.std.proofs.lemmas.List.{take_all}
use Rattle.std.proofs.lemmas.List.Folds.{list_any_more, list_any-from_Any}
use Rattle.pam_codes.specs.declared.action.Action.{Action}
use Rattle.pam_codes.specs.declared.parts.Part.{Part}
use Rattle.pam_codes.specs.Code.{all_codes}
use Rattle.pam_codes.specs.Parts.{IsPart, IsParts}
use Rattle.pam_codes.specs.Set.{IsCodeSet, codes_where, is_in}
use Rattle.pam_codes.specs.inner.SetBits.{is_in-codes_where, codes_where-same}
use Rattle.pam_dispatch.specs.declared.state.Impression.TheVariants.{Negative}
use Rattle.pam_dispatch.specs.declared.state.State.{State}
use Rattle.pam_dispatch.specs.declared.step.Outcome.{Outcome}
use Rattle.pam_dispatch.specs.Alike.{looks_at_code}
use Rattle.pam_dispatch.specs.Runs.{Ask, Runs, asked_module, asks, ends, next_ask, outcome_in, outcome_of, state_in}
use Rattle.pam_dispatch.specs.Settled.{keeps_failure}
use Rattle.pam_paths.specs.Classes.{class_at, class_of, least, same_outcome}
use Rattle.pam_paths.specs.Computed.{is_offered}
use Rattle.pam_paths.specs.Frames.{offered_at}
use Rattle.pam_paths.specs.Listing.{Allowance}
use Rattle.pam_paths.specs.inner.Sharing.{is_offered_by, is_shared, past_part, past_parts, shared_code}
use Rattle.pam_paths.proofs.Alike.{class-same, in_class, least_of_class, list_any_back, list_any_from, of_class}
use Rattle.pam_paths.proofs.Alike.{same_outcome-from, same_outcome-self, same_outcome-true}
use Rattle.pam_paths.proofs.OneAction.{alike_codes, failed_outcome, one_outcome}
use Rattle.pam_paths.proofs.Sets.{everything, same_tests, where-is_set}
use Rattle.pam_paths.proofs.Sharing.{Member-is_in, code_low, first-in, one_passes}

first_there : (codes : List ℕ) → 0 < length codes → slice_get codes 0 ≡ Some (get_or codes 0 0)
first_there [] h = absurd (omega (arith, h))
first_there (d ∷ codes) h = refl

-- the class of a shared code has a code, or the code is of no such class
module _ (ask : Ask) where
  is_shared-same : (part : Part) (d e : ℕ) → outcome_of ask d ≡ outcome_of ask e → is_shared ask d part ≡ is_shared ask e part
  unfolding is_shared
  is_shared-same part d e same = ap (λ (o : Outcome). option_map_or (λ c. same_outcome (outcome_of ask c) o) (shared_code part ask.state) false) same

  any_shared-same : (parts : List Part) (d e : ℕ) → outcome_of ask d ≡ outcome_of ask e → list_any (is_shared ask d) parts ≡ list_any (is_shared ask e) parts
  any_shared-same [] d e same = refl
  any_shared-same (part ∷ parts) d e same =
      ap (λ (b : Bool). b || list_any (is_shared ask d) parts) (is_shared-same part d e same)
      ∙ ap (λ (b : Bool). is_shared ask e part || b) (any_shared-same parts d e same)

  shared-told : (part : Part) (c d : ℕ) → shared_code part ask.state ≡ Some c → is_shared ask d part ≡ same_outcome (outcome_of ask c) (outcome_of ask d)
  unfolding is_shared
  shared-told part c d e = ap (λ (x : Option ℕ). option_map_or (λ k. same_outcome (outcome_of ask k) (outcome_of ask d)) x false) e

  shared-none : (part : Part) (d : ℕ) → shared_code part ask.state ≡ None → is_shared ask d part ≡ false
  unfolding is_shared
  shared-none part d e = ap (λ (x : Option ℕ). option_map_or (λ k. same_outcome (outcome_of ask k) (outcome_of ask d)) x false) e

  -- no code of the classes so far has the outcome of one that is in none of them
  pub seen-other : (parts : List Part) (seen : List ℕ) (c d : ℕ) (o : Outcome) → seen ≡ codes_where (λ k. list_any (is_shared ask k) parts) →
      c < 31 → d < 31 → outcome_of ask c ≡ o → is_in c seen ≡ false → is_in d seen ≡ true → same_outcome o (outcome_of ask d) ≡ false
  seen-other parts seen c d o was low small is new there =
      elim (cases_Bool (same_outcome o (outcome_of ask d))) [
        | inl t ↦
            let same : outcome_of ask c ≡ outcome_of ask d = is ∙ same_outcome-true o (outcome_of ask d) t in
            let test : ℕ → Bool = λ k. list_any (is_shared ask k) parts in
            let in_c : is_in c seen ≡ test c = ap (is_in c) was ∙ is_in-codes_where test c low in
            let in_d : is_in d seen ≡ test d = ap (is_in d) was ∙ is_in-codes_where test d small in
            absurd (false≢true (sym new ∙ in_c ∙ any_shared-same parts c d same ∙ sym in_d ∙ there))
        | inr f ↦ f
      ]

  in_class_at : (c d : ℕ) → d < 31 → is_in d (class_at ask (outcome_of ask c)) ≡ same_outcome (outcome_of ask c) (outcome_of ask d)
  unfolding class_at
  in_class_at c d low = is_in-codes_where (λ k. same_outcome (outcome_of ask c) (outcome_of ask k)) d low

  -- passing a part that shares a code
  pub past-some : (codes new class : List ℕ) (part : Part) (c : ℕ) → shared_code part ask.state ≡ Some c → class ≡ class_at ask (outcome_of ask c) →
      new ≡ codes_where (λ d. cond (is_in d class) ((least class == d) && list_any (λ k. is_in k codes) class) (is_in d codes)) →
      new ≡ codes_where (past_part codes ask part)
  unfolding past_part is_offered_by
  past-some codes new class part c e is h = h ∙ codes_where-same _ (past_part codes ask part) (λ d low.
      let inside : is_in d class ≡ same_outcome (outcome_of ask c) (outcome_of ask d) = ap (is_in d) is ∙ in_class_at c d low in
      let shared : is_in d class ≡ is_shared ask d part = inside ∙ sym (shared-told part c d e) in
      elim (cases_Bool (is_in d class)) [
        | inl t ↦
            let same : class ≡ class_of ask d = is ∙ ap (class_at ask) (same_outcome-true (outcome_of ask c) (outcome_of ask d) (sym inside ∙ t)) in
            cond-true (is_in d class) ((least class == d) && list_any (λ k. is_in k codes) class) (is_in d codes) t
            ∙ ap (λ (x : List ℕ). (least x == d) && list_any (λ k. is_in k codes) x) same
            ∙ sym (cond-true (is_shared ask d part) ((least (class_of ask d) == d) && list_any (λ k. is_in k codes) (class_of ask d)) (is_in d codes)
            (sym shared ∙ t))
        | inr f ↦
            cond-false (is_in d class) ((least class == d) && list_any (λ k. is_in k codes) class) (is_in d codes) f
            ∙ sym (cond-false (is_shared ask d part) ((least (class_of ask d) == d) && list_any (λ k. is_in k codes) (class_of ask d)) (is_in d codes)
            (sym shared ∙ f))
      ])

  pub past-none : (codes : List ℕ) (part : Part) → IsCodeSet codes → shared_code part ask.state ≡ None → codes ≡ codes_where (past_part codes ask part)
  unfolding past_part
  past-none codes part set e = set ∙ codes_where-same (λ d. is_in d codes) (past_part codes ask part) (λ d low.
      sym (cond-false (is_shared ask d part) (is_offered_by codes ask d) (is_in d codes) (shared-none part d e)))

  -- a class, by any of its codes
  pub class-whole : (class : List ℕ) (c d : ℕ) → class ≡ class_at ask (outcome_of ask c) → d < 31 → is_in d class ≡ true → class_of ask d ≡ class
  class-whole class c d is low h =
      let same = same_outcome-true (outcome_of ask c) (outcome_of ask d) (sym (ap (is_in d) is ∙ in_class_at c d low) ∙ h) in
      ap (class_at ask) (sym same) ∙ sym is

  module _ (parts : List Part) (i : ℕ) (part : Part) (seen : List ℕ) (l : i < length parts) (at : part ≡ get_or parts i part)
      (was : seen ≡ codes_where (λ d. list_any (is_shared ask d) (take i parts))) where
    abbrev before : ℕ → Bool
    before d = list_any (is_shared ask d) (take i parts)

    any-more : (d : ℕ) → list_any (is_shared ask d) (take (i + 1) parts) ≡ (before d || is_shared ask d part)
    any-more d = list_any_more (is_shared ask d) parts i part l ∙ ap (λ (p : Part). before d || is_shared ask d p) (sym at)

    -- the codes of the classes computed, with the class of one more part
    pub seen-more : (class new : List ℕ) (c : ℕ) → shared_code part ask.state ≡ Some c → class ≡ class_at ask (outcome_of ask c) →
        new ≡ codes_where (λ d. is_in d seen || is_in d class) → new ≡ codes_where (λ d. list_any (is_shared ask d) (take (i + 1) parts))
    seen-more class new c e is h = h ∙ codes_where-same (λ d. is_in d seen || is_in d class) (λ d. list_any (is_shared ask d) (take (i + 1) parts)) (λ d low.
        ap (λ (b : Bool). b || is_in d class) (ap (is_in d) was ∙ is_in-codes_where before d low)
        ∙ ap (λ (b : Bool). before d || b) (ap (is_in d) is ∙ in_class_at c d low ∙ sym (shared-told part c d e))
        ∙ sym (any-more d))

    -- or of a part that adds no class
    seen-here : (x : Option ℕ) → shared_code part ask.state ≡ x → IfSome x (λ c. IsTrue (is_in c seen)) → (d : ℕ) → is_shared ask d part ≡ true →
        before d ≡ true
    seen-here None e h d t = absurd (false≢true (sym (shared-none part d e) ∙ t))
    seen-here (Some c) e h d t =
        let low : c < 31 = code_low seen c (subst IsCodeSet (sym was) (where-is_set before)) (Member-is_in seen c h) in
        any_shared-same (take i parts) d c (sym (same_outcome-true (outcome_of ask c) (outcome_of ask d) (sym (shared-told part c d e) ∙ t)))
        ∙ sym (ap (is_in c) was ∙ is_in-codes_where before c low) ∙ h

    kept : (a b : Bool) → (b ≡ true → a ≡ true) → (a || b) ≡ a
    kept true b h = refl
    kept false true h = sym (h refl)
    kept false false h = refl

    any-kept : IfSome (shared_code part ask.state) (λ c. IsTrue (is_in c seen)) → (d : ℕ) →
        list_any (is_shared ask d) (take (i + 1) parts) ≡ before d
    any-kept h d = any-more d ∙ kept (before d) (is_shared ask d part) (seen-here (shared_code part ask.state) refl h d)

    pub seen-kept : IfSome (shared_code part ask.state) (λ c. IsTrue (is_in c seen)) → seen ≡ codes_where (λ d. list_any (is_shared ask d) (take (i + 1) parts))
    seen-kept h = was ∙ codes_where-same before (λ d. list_any (is_shared ask d) (take (i + 1) parts)) (λ d low. sym (any-kept h d))

    pub past-kept : (allowed old : List ℕ) → IfSome (shared_code part ask.state) (λ c. IsTrue (is_in c seen)) →
        old ≡ codes_where (past_parts allowed ask (take i parts)) → old ≡ codes_where (past_parts allowed ask (take (i + 1) parts))
    unfolding past_parts
    past-kept allowed old h is = is ∙ codes_where-same (past_parts allowed ask (take i parts)) (past_parts allowed ask (take (i + 1) parts)) (λ d low.
        ap (λ (b : Bool). cond b (is_offered_by allowed ask d) (is_in d allowed)) (sym (any-kept h d)))

  module _ (allowed : List ℕ) where
    abbrev offered : ℕ → Bool
    offered d = is_offered_by allowed ask d

    -- a class has a code that is left if and only if it has an allowed one
    any_left : (parts : List Part) (codes : List ℕ) (d : ℕ) → d < 31 → codes ≡ codes_where (past_parts allowed ask parts) →
        list_any (λ k. is_in k codes) (class_of ask d) ≡ list_any (λ k. is_in k allowed) (class_of ask d)
    unfolding past_parts is_offered_by
    any_left parts codes d low is = same_tests _ _
        (λ h.
        let w = list_any_back (λ k. is_in k codes) (class_of ask d) h in
        let k = of_class ask d w.0 w.1 in
        let left : past_parts allowed ask parts w.0 ≡ true = sym (ap (is_in w.0) is ∙ is_in-codes_where (past_parts allowed ask parts) w.0 k.0) ∙ w.2 in
        elim (cases_Bool (list_any (is_shared ask w.0) parts)) [
          | inl t ↦
              let any = (and_parts (least (class_of ask w.0) == w.0) (list_any (λ x. is_in x allowed) (class_of ask w.0)) (sym (cond-true _ _ _ t) ∙ left)).1
              in
              ap (λ (x : List ℕ). list_any (λ y. is_in y allowed) x) (class-same ask d w.0 k.1) ∙ any
          | inr f ↦ list_any_from (λ x. is_in x allowed) (class_of ask d) w.0 w.1 (sym (cond-false _ _ _ f) ∙ left)
        ])
        (λ h.
        let w = list_any_back (λ k. is_in k allowed) (class_of ask d) h in
        let k = of_class ask d w.0 w.1 in
        elim (cases_Bool (list_any (is_shared ask d) parts)) [
          | inl t ↦
              let head = least_of_class ask d low in
              let l : ℕ = least (class_of ask d) in
              let within : l < 31 = omega (arith, head.1, low) in
              let class : class_of ask l ≡ class_of ask d = class-same ask l d (sym head.0) in
              let shared : list_any (is_shared ask l) parts ≡ true = any_shared-same parts l d (sym head.0) ∙ t in
              let here : past_parts allowed ask parts l ≡ true =
              cond-true _ _ _ shared ∙ and_from (least (class_of ask l) == l) (list_any (λ x. is_in x allowed) (class_of ask l)) (eq-eqb _ _ (ap least class))
              (ap (λ (x : List ℕ). list_any (λ y. is_in y allowed) x) class ∙ h) in
              list_any_from (λ x. is_in x codes) (class_of ask d) l (in_class ask d l within head.0)
              (ap (is_in l) is ∙ is_in-codes_where (past_parts allowed ask parts) l within ∙ here)
          | inr f ↦
              let none : list_any (is_shared ask w.0) parts ≡ false = any_shared-same parts w.0 d (sym k.1) ∙ f in
              list_any_from (λ x. is_in x codes) (class_of ask d) w.0 w.1
              (ap (is_in w.0) is ∙ is_in-codes_where (past_parts allowed ask parts) w.0 k.0 ∙ cond-false _ _ _ none ∙ w.2)
        ])

    pub past-more : (parts : List Part) (i : ℕ) (part : Part) (old new : List ℕ) → i < length parts → part ≡ get_or parts i part →
        old ≡ codes_where (past_parts allowed ask (take i parts)) → new ≡ codes_where (past_part old ask part) →
        new ≡ codes_where (past_parts allowed ask (take (i + 1) parts))
    unfolding past_part past_parts is_offered_by
    past-more parts i part old new l at was is = is ∙ codes_where-same (past_part old ask part) (past_parts allowed ask (take (i + 1) parts)) (λ d low.
        let before : Bool = list_any (is_shared ask d) (take i parts) in
        let here : Bool = is_shared ask d part in
        let more : list_any (is_shared ask d) (take (i + 1) parts) ≡ (before || here) =
        list_any_more (is_shared ask d) parts i part l ∙ ap (λ (p : Part). before || is_shared ask d p) (sym at) in
        let kept : is_in d old ≡ cond before (offered d) (is_in d allowed) = ap (is_in d) was
        ∙ is_in-codes_where (past_parts allowed ask (take i parts)) d low in
        let any : is_offered_by old ask d ≡ offered d = ap (λ (b : Bool). (least (class_of ask d) == d) && b) (any_left (take i parts) old d low was) in
        ap (λ (b : Bool). cond here b (is_in d old)) any
        ∙ ap (λ (b : Bool). cond here (offered d) b) kept
        ∙ joined here before (offered d) (is_in d allowed)
        ∙ ap (λ (b : Bool). cond b (offered d) (is_in d allowed)) (sym more))
      where
        joined : (a b x y : Bool) → cond a x (cond b x y) ≡ cond (b || a) x y
        joined true true x y = refl
        joined true false x y = refl
        joined false true x y = refl
        joined false false x y = refl

    pub past-first : (parts : List Part) → IsCodeSet allowed → allowed ≡ codes_where (past_parts allowed ask (take 0 parts))
    unfolding past_parts
    past-first parts set = set

  -- a code that shares its class with no other
  module _ (parts : List Part) (is : IsParts ask.control parts) where
    -- the part of a code
    part_of : (d : ℕ) → d < 31 → (p : Part) × IsPart ask.control p × (is_in d p.codes ≡ true) ×
        (is_shared ask d p ≡ true → list_any (is_shared ask d) parts ≡ true)
    part_of d low =
        let w = is.each_code d low in
        let p : Part = w.1 in (
          p,
          subst (IsPart ask.control) w.3 (is.each_part w.0 p w.2),
          w.4,
          λ t. list_any-from_Any (is_shared ask d) parts (w.0, p, w.2, w.3, t),
        )

    -- each code of a part whose action does not look at the code shares its class
    shares-first : (p : Part) (d : ℕ) → IsPart ask.control p → is_in d p.codes ≡ true →
        looks_at_code p.action ask.state ≡ false → is_shared ask d p ≡ true
    shares-first p d part inside looks =
        let r : ℕ = get_or p.codes 0 0 in
        let first : slice_get p.codes 0 ≡ Some r = first_there p.codes part.filled in
        let e : shared_code p ask.state ≡ Some r = cond-false _ _ (slice_get p.codes 0) looks ∙ first in
        shared-told p r d e ∙ same_outcome-from _ _ (one_outcome ask p.action r d (part.acts r (first-in p.codes r first)) (part.acts d inside) looks)

    -- so does perm_denied under any other action, and so do the codes alike to it
    shares-denied : (p : Part) (d : ℕ) → is_in 6 p.codes ≡ true → looks_at_code p.action ask.state ≡ true →
        outcome_of ask 6 ≡ outcome_of ask d → is_shared ask d p ≡ true
    shares-denied p d inside looks same =
        let e : shared_code p ask.state ≡ Some 6 =
        cond-true _ (cond (is_in 6 p.codes) (Some 6) None) _ looks ∙ cond-true (is_in 6 p.codes) (Some 6) None inside in
        shared-told p 6 d e ∙ same_outcome-from _ _ same

    -- a code that shares its class with no other
    only_itself : (d e : ℕ) → d < 31 → e < 31 → list_any (is_shared ask d) parts ≡ false → outcome_of ask d ≡ outcome_of ask e → e ≡ d
    only_itself d e low_d low_e none same =
        let p = part_of d low_d in
        let q = part_of e low_e in
        let not_shared : list_any (is_shared ask d) parts ≡ true → ⊥ = λ t. false≢true (sym none ∙ t) in
        let back : list_any (is_shared ask e) parts ≡ true → list_any (is_shared ask d) parts ≡ true = λ t. any_shared-same parts d e same ∙ t in
        elim (cases_Bool (looks_at_code p.0.action ask.state)) [
          | inr f ↦ absurd (not_shared (p.3 (shares-first p.0 d p.1 p.2 f)))
          | inl t ↦ elim (cases_Bool (looks_at_code q.0.action ask.state)) [
            | inr f ↦ absurd (not_shared (back (q.3 (shares-first q.0 e q.1 q.2 f))))
            | inl u ↦ elim (alike_codes ask p.0.action q.0.action d e (p.1.acts d p.2) (q.1.acts e q.2) t u same) [
              | inl k ↦ sym k
              | inr k ↦ elim k [
                | inl w ↦
                    let inside : is_in 6 p.0.codes ≡ true = ap (λ (x : ℕ). is_in x p.0.codes) (sym w.0) ∙ p.2 in
                    absurd (not_shared (p.3 (shares-denied p.0 d inside t (ap (outcome_of ask) (sym w.0)))))
                | inr w ↦
                    let inside : is_in 6 q.0.codes ≡ true = ap (λ (x : ℕ). is_in x q.0.codes) (sym w.1) ∙ q.2 in
                    absurd (not_shared (back (q.3 (shares-denied q.0 e inside u (ap (outcome_of ask) (sym w.1))))))
              ]
            ]
          ]
        ]

    -- so in the end each code that is left begins a branch
    offered-alone : (allowed : List ℕ) (d : ℕ) → d < 31 → list_any (is_shared ask d) parts ≡ false → is_offered_by allowed ask d ≡ is_in d allowed
    unfolding is_offered_by
    offered-alone allowed d low none =
        let head = least_of_class ask d low in
        let own : least (class_of ask d) ≡ d = only_itself d (least (class_of ask d)) low (omega (arith, head.1, low)) none head.0 in
        ap (λ (b : Bool). b && list_any (λ k. is_in k allowed) (class_of ask d)) (eq-eqb (least (class_of ask d)) d own)
        ∙ same_tests (list_any (λ k. is_in k allowed) (class_of ask d)) (is_in d allowed)
        (λ h.
        let w = list_any_back (λ k. is_in k allowed) (class_of ask d) h in
        let k = of_class ask d w.0 w.1 in
        ap (λ (x : ℕ). is_in x allowed) (sym (only_itself d w.0 low k.0 none k.1)) ∙ w.2)
        (λ h. list_any_from (λ k. is_in k allowed) (class_of ask d) d (in_class ask d d low refl) h)

    pub past-all : (allowed offered : List ℕ) (i : ℕ) → length parts ≤ i → offered ≡ codes_where (past_parts allowed ask (take i parts)) →
        offered ≡ codes_where (is_offered_by allowed ask)
    unfolding past_parts
    past-all allowed offered i long is = is ∙ codes_where-same _ (is_offered_by allowed ask) (λ d low.
        ap (λ (ps : List Part). cond (list_any (is_shared ask d) ps) (is_offered_by allowed ask d) (is_in d allowed)) (take_all i parts long)
        ∙ elim (cases_Bool (list_any (is_shared ask d) parts)) [
          | inl t ↦ cond-true _ _ _ t
          | inr f ↦ cond-false _ _ _ f ∙ sym (offered-alone allowed d low f)
        ])

    -- a code in none of the classes computed is alone in its class
    pub class-alone : (seen : List ℕ) (i : ℕ) → length parts ≤ i → seen ≡ codes_where (λ d. list_any (is_shared ask d) (take i parts)) →
        (d : ℕ) → d < 31 → is_in d seen ≡ false → class_of ask d ≡ d ∷ []
    unfolding class_at
    class-alone seen i long was d low none =
        let f : list_any (is_shared ask d) parts ≡ false =
        ap (λ (ps : List Part). list_any (is_shared ask d) ps) (sym (take_all i parts long))
        ∙ sym (ap (is_in d) was ∙ is_in-codes_where (λ x. list_any (is_shared ask x) (take i parts)) d low) ∙ none in
        let same : ℕ → Bool = λ e. same_outcome (outcome_of ask d) (outcome_of ask e) in
        sym (one_passes (d ∷ []) d same refl low (same_outcome-self (outcome_of ask d))
        ∙ codes_where-same (λ e. (e == d) && same e) same (λ e l. same_tests ((e == d) && same e) (same e)
        (λ h. (and_parts (e == d) (same e) h).1)
        (λ h. and_from (e == d) (same e) (eq-eqb e d (only_itself d e low l f (same_outcome-true (outcome_of ask d) (outcome_of ask e) h))) h)))

    -- a stack that has failed, if each action keeps that
    module _ (negative : ask.state.impression ≡ Negative) (keeps : All (λ p. IsTrue (keeps_failure p.action)) parts) where
      same_for : (d : ℕ) → d < 31 → outcome_of ask d ≡ record { state = ask.state; left = ask.after }
      same_for d low =
          let w = is.each_code d low in
          let p : Part = w.1 in
          let part = subst (IsPart ask.control) w.3 (is.each_part w.0 p w.2) in
          failed_outcome ask p.action d (part.acts d w.4) negative (subst (λ (x : Part). keeps_failure x.action ≡ true) w.3 (keeps w.0 p w.2))

      pub class-every : (d : ℕ) → d < 31 → class_of ask d ≡ all_codes
      unfolding class_at
      class-every d low =
          codes_where-same (λ e. same_outcome (outcome_of ask d) (outcome_of ask e)) (λ e. true)
          (λ e l. same_outcome-from (outcome_of ask d) (outcome_of ask e) (same_for d low ∙ sym (same_for e l)))
          ∙ sym everything

      pub past-every : (allowed every new : List ℕ) → every ≡ all_codes →
          new ≡ codes_where (λ d. cond (is_in d every) ((least every == d) && list_any (λ k. is_in k allowed) every) (is_in d allowed)) →
          new ≡ codes_where (is_offered_by allowed ask)
      unfolding is_offered_by
      past-every allowed every new e h = h ∙ codes_where-same _ (is_offered_by allowed ask) (λ d low.
          cond-true (is_in d every) ((least every == d) && list_any (λ k. is_in k allowed) every) (is_in d allowed)
          (ap (is_in d) (e ∙ everything) ∙ is_in-codes_where (λ x. true) d low)
          ∙ ap (λ (x : List ℕ). (least x == d) && list_any (λ k. is_in k allowed) x) (e ∙ sym (class-every d low)))

-- by the codes that a knowledge allows
pub offered-by : (allows : Allowance) (r : Runs) (m : ℕ) (allowed offered : List ℕ) → asked_module r ≡ Some m → allowed ≡ codes_where (allows m) →
    offered ≡ codes_where (is_offered_by allowed (next_ask r)) → offered ≡ offered_at allows r
unfolding is_offered_by is_offered
offered-by allows (ends s) m allowed offered asking is was = absurd (let k : ⊥ = cc in k)
offered-by allows (asks ask next) m allowed offered asking is was = was ∙ codes_where-same (is_offered_by allowed ask) (is_offered allows ask) (λ d low.
    let number : ask.module_number ≡ m = cc in
    let may : (k : ℕ) → k < 31 → is_in k allowed ≡ allows ask.module_number k =
    λ k l. ap (is_in k) is ∙ is_in-codes_where (allows m) k l ∙ ap (λ (x : ℕ). allows x k) (sym number) in
    ap (λ (b : Bool). (least (class_of ask d) == d) && b) (same_tests _ _
    (λ h.
    let w = list_any_back (λ k. is_in k allowed) (class_of ask d) h in
    list_any_from (allows ask.module_number) (class_of ask d) w.0 w.1 (sym (may w.0 (of_class ask d w.0 w.1).0) ∙ w.2))
    (λ h.
    let w = list_any_back (allows ask.module_number) (class_of ask d) h in
    list_any_from (λ k. is_in k allowed) (class_of ask d) w.0 w.1 (may w.0 (of_class ask d w.0 w.1).0 ∙ w.2))))

pub state-asked : (r : Runs) → state_in r ≡ (next_ask r).state
state-asked (ends s) = refl
state-asked (asks ask next) = refl

-- whether the action looks at the code, at a place
pub looks-asked : (r : Runs) (action : Action) (s : State) (b : Bool) → s ≡ state_in r → looks_at_code action s ≡ b →
    looks_at_code action (next_ask r).state ≡ b
looks-asked r action s b e h = ap (λ (x : State). looks_at_code action x) (sym (state-asked r) ∙ sym e) ∙ h

pub outcome-asked : (r : Runs) (c : ℕ) → IsSome (asked_module r) → outcome_in r c ≡ outcome_of (next_ask r) c
outcome-asked (ends s) c h = absurd (false≢true h)
outcome-asked (asks ask next) c h = refl

pub shared-asked : (r : Runs) (part : Part) (s : State) (found : Option ℕ) → s ≡ state_in r → found ≡ shared_code part s →
    shared_code part (next_ask r).state ≡ found
shared-asked r part s found e is = ap (shared_code part) (sym (state-asked r) ∙ sym e) ∙ sym is
