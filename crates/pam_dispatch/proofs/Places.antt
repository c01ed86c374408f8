-- Places, and the runs from them on.
use Rattle.std.proofs.Common.{◌≡◌, ℕ, ◌+◌, ◌-◌, ◌<◌, ◌≤◌, ◌&&◌, List, [], ◌∷◌, ◌++◌, eqb, ltb, refl, sym, ◌∙◌, ap, subst, inl, inr, arith, take, drop}
use Rattle.std.proofs.Common.{length, get_or, slice_get, Option, Some}
use Rattle.std.proofs.lemmas.Option.{get_or_from_slice_get}
use Rattle.std.specs.Prelude.{IsSome}
use Rattle.std.proofs.lemmas.Bool.{cases_lt, cond_both, false≢true}
use Rattle.std.proofs.lemmas.List.{drop_all}
use Rattle.pam_dispatch.specs.declared.state.State.{State}
use Rattle.pam_dispatch.specs.declared.place.Place.{Place}
use Rattle.pam_codes.specs.declared.action.Action.{Action}
use Rattle.pam_codes.specs.declared.action.Action.TheVariants.{Ignore}
use Rattle.pam_dispatch.specs.declared.flat_item.FlatItem.{FlatItem}
use Rattle.pam_dispatch.specs.declared.flat_item.FlatItem.TheVariants.{Module, Substack}
use Rattle.pam_dispatch.specs.State.{start_state, act, left_of}
use Rattle.pam_dispatch.specs.declared.step.Outcome.{Outcome}
use Rattle.pam_dispatch.specs.Runs.{Ask, outcome_of, Runs, asked_module, state_in, after_answer, next_ask}
use Rattle.pam_dispatch.specs.Flat.{resume, IsAt, IsPlaceOf, rest_of}
use Rattle.pam_dispatch.proofs.Resume.{resume-module, ask_at, asked_module-ask_at, at_index, at_module-asks}

abbrev outcome : State → ℕ → Outcome
outcome s l = record { state = s; left = l }

abbrev pub asked_with : ℕ → List Action → State → State → ℕ → Ask
asked_with m control s entry after = record { module_number = m; control = control; state = s; entry = entry; after = after }

-- the outcome of an action for a code is that of the code
pub outcome-made : (ask : Ask) (state entry : State) (after code : ℕ) (action : Action) (made : Outcome) →
    state ≡ ask.state → entry ≡ ask.entry → after ≡ ask.after → slice_get ask.control code ≡ Some action →
    made.state ≡ act action code state entry after → made.left ≡ left_of action code state after → outcome_of ask code ≡ made
unfolding outcome_of
outcome-made ask state entry after code action made s e a acts new left =
    ap (λ (x : Action). outcome (act x code ask.state ask.entry ask.after) (left_of x code ask.state ask.after))
    (get_or_from_slice_get ask.control code action Ignore acts)
    ∙ ap (λ (x : State). outcome (act action code x ask.entry ask.after) (left_of action code x ask.after)) (sym s)
    ∙ ap (λ (x : State). outcome (act action code state x ask.after) (left_of action code state ask.after)) (sym e)
    ∙ ap (λ (x : ℕ). outcome (act action code state entry x) (left_of action code state x)) (sym a)
    ∙ ap (λ (x : State). outcome x (left_of action code state after)) (sym new)
    ∙ ap (λ (x : ℕ). outcome made.state x) (sym left)

-- a run begins in its state
pub state_in-resume : (ts : List FlatItem) (level skip : ℕ) (es : List State) (s : State) → state_in (resume ts level skip es s) ≡ s
unfolding resume
state_in-resume [] level skip es s = refl
state_in-resume (Module here m control after ∷ rest) level skip es s =
    cond_both (ltb level here) (resume rest level skip es s) _ (λ r. state_in r ≡ s)
    (λ k. state_in-resume rest level skip es s)
    (λ k. cond_both (eqb here level && ltb 0 skip) (resume rest level (skip - 1) es s) _ (λ r. state_in r ≡ s)
    (λ j. state_in-resume rest level (skip - 1) es s) (λ j. refl))
state_in-resume (Substack here ∷ rest) level skip es s =
    cond_both (ltb level here) (resume rest level skip es s) _ (λ r. state_in r ≡ s)
    (λ k. state_in-resume rest level skip es s)
    (λ k.
    cond_both (eqb here level && ltb 0 skip) (resume rest level (skip - 1) es s) (resume rest (here + 1) 0 (take (here + 1) es ++ s ∷ []) s)
    (λ r. state_in r ≡ s)
    (λ j. state_in-resume rest level (skip - 1) es s) (λ j. state_in-resume rest (here + 1) 0 _ s))

asked-resume : (ts : List FlatItem) (depth : ℕ) (n : Option ℕ) (es : List State) (s : State) → IsAt ts depth n → n ≡ asked_module (resume ts depth 0 es s)
unfolding resume
asked-resume [] depth n es s h = h
asked-resume (Module here m control after ∷ rest) depth n es s h =
    h.1
    ∙ sym (asked_module-ask_at here m control after rest es s)
    ∙ sym (ap asked_module (resume-module here m control after rest depth 0 es s (omega (arith, h.0)) (λ e l. omega arith)))
asked-resume (Substack here ∷ rest) depth n es s h = absurd h

module _ (program : List FlatItem) (place : Place) (valid : IsPlaceOf program place) where
  -- a place has the module asked and the state
  pub place_module : place.module_number ≡ asked_module (rest_of program place)
  unfolding IsPlaceOf rest_of
  place_module = asked-resume (drop place.position program) place.depth place.module_number (take place.depth place.entered.states) place.state valid

  pub place_state : place.state ≡ state_in (rest_of program place)
  unfolding rest_of
  place_state = sym (state_in-resume _ _ _ _ _)

  -- a place that asks is within the list
  pub place_within : IsSome (asked_module (rest_of program place)) → place.position < length program
  unfolding rest_of resume
  place_within some =
      elim (cases_lt place.position (length program)) [
        | inl l ↦ l
        | inr out ↦
            let e : drop place.position program ≡ [] = drop_all _ _ out in
            absurd (false≢true (subst (λ ts. IsSome (asked_module (resume ts place.depth 0 (take place.depth place.entered.states) place.state))) e some))
      ]

  pub place_no_substack : (d : FlatItem) (l : ℕ) → place.position < length program → get_or program place.position d ≡ Substack l → ⊥
  unfolding IsPlaceOf
  place_no_substack d l within is =
      subst (λ ts. IsAt ts place.depth place.module_number) (at_index program place.position d (Substack l) within is) valid

  module _ (d : FlatItem) (l m : ℕ) (control : List Action) (after : ℕ) (within : place.position < length program)
      (is : get_or program place.position d ≡ Module l m control after) where
    pub place_depth : place.depth ≡ l + 1
    unfolding IsPlaceOf
    place_depth =
        let P : List FlatItem → Type 0 = λ ts. IsAt ts place.depth place.module_number in
        let k : P (Module l m control after ∷ drop (place.position + 1) program) =
        subst P (at_index program place.position d (Module l m control after) within is) valid in
        k.0

    pub place_asks : rest_of program place ≡ ask_at l m control after (drop (place.position + 1) program) place.entered.states place.state
    unfolding rest_of
    place_asks =
        at_module-asks program place.position d l m control after within is place.entered.states place.state place.depth place.depth 0
        (omega (arith, place_depth)) (λ e z. omega arith) (omega (arith, place_depth))

    pub place_asked : (entry : State) → entry ≡ get_or place.entered.states l start_state →
        asked_with m control place.state entry after ≡ next_ask (rest_of program place)
    unfolding ask_at
    place_asked entry is =
        ap (λ (x : State). asked_with m control place.state x after) is
        ∙ sym (ap next_ask place_asks)

  module _ (asking : IsSome (asked_module (rest_of program place))) where
    -- a place that asks is in an open list
    pub place_deep : 1 ≤ place.depth
    place_deep = deep (get_or program place.position (Substack 0)) refl
      where
        deep : (e : FlatItem) → get_or program place.position (Substack 0) ≡ e → 1 ≤ place.depth
        deep (Module l m control after) is = omega (arith, place_depth (Substack 0) l m control after (place_within asking) is)
        deep (Substack l) is = absurd (place_no_substack (Substack 0) l (place_within asking) is)

    -- the run after an answer
    module _ (code level skip : ℕ) (made : Outcome) (is_made : outcome_of (next_ask (rest_of program place)) code ≡ made)
        (is_level : level ≡ place.depth - 1) (is_skip : skip ≡ (next_ask (rest_of program place)).after - made.left) where
      pub answer_rest : after_answer (rest_of program place) code
          ≡ resume (drop (place.position + 1) program) level skip (take place.depth place.entered.states) made.state
      unfolding ask_at
      answer_rest = at_item (get_or program place.position (Substack 0)) refl
        where
          at_item : (e : FlatItem) → get_or program place.position (Substack 0) ≡ e →
              after_answer (rest_of program place) code
              ≡ resume (drop (place.position + 1) program) level skip (take place.depth place.entered.states) made.state
          at_item (Substack l) is = absurd (place_no_substack (Substack 0) l (place_within asking) is)
          at_item (Module l m control after) is =
              let rest = drop (place.position + 1) program in
              let asks = place_asks (Substack 0) l m control after (place_within asking) is in
              let deeper = place_depth (Substack 0) l m control after (place_within asking) is in
              let same = ap next_ask asks in
              let left : after - made.left ≡ skip = ap (λ (a : Ask). a.after - made.left) (sym same) ∙ sym is_skip in
              let here : l ≡ level = omega (arith, deeper, is_level) in
              ap (λ (q : Runs). after_answer q code) asks
              ∙ ap (λ (o : Outcome). resume rest l (after - o.left) (take (l + 1) place.entered.states) o.state)
              (ap (λ (a : Ask). outcome_of a code) (sym same) ∙ is_made)
              ∙ ap (λ (x : ℕ). resume rest l x (take (l + 1) place.entered.states) made.state) left
              ∙ ap (λ (x : ℕ). resume rest l skip (take x place.entered.states) made.state) (sym deeper)
              ∙ ap (λ (x : ℕ). resume rest x skip (take place.depth place.entered.states) made.state) here
