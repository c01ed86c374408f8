-- The effect of each item on a run over a flat list.
use Rattle.std.proofs.Common.{◌≡◌, ℕ, ◌+◌, ◌-◌, ◌<◌, ◌≤◌, false, ◌&&◌, List, [], ◌∷◌, ◌++◌, eqb, ltb, zero, suc, refl, sym, ◌∙◌, ap, arith, take}
use Rattle.std.proofs.Common.{drop, length, get_or, drop-cons, add-one, add-suc, slice_set, Some}
use Rattle.std.proofs.lemmas.List.{get_or-take}
use Rattle.std.proofs.Math.Seq.{take-suc-set}
use Rattle.std.proofs.lemmas.Bool.{cond-true, cond-false, lt-ltb, le-ltb, eq-eqb, and_from, and_right, ne_eqb, and_left}
use Rattle.pam_dispatch.specs.declared.state.State.{State}
use Rattle.pam_codes.specs.declared.action.Action.{Action}
use Rattle.pam_dispatch.specs.declared.flat_item.FlatItem.{FlatItem}
use Rattle.pam_dispatch.specs.declared.flat_item.FlatItem.TheVariants.{Module, Substack}
use Rattle.pam_dispatch.specs.State.{start_state}
use Rattle.pam_dispatch.specs.Runs.{Runs, asks, asked_module}
use Rattle.pam_dispatch.specs.Flat.{level_of, resume}

pub take-take : {X : Type 0} (m d : ℕ) (xs : List X) → m ≤ d → take m (take d xs) ≡ take m xs
take-take zero d xs h = refl
take-take (suc m) zero xs h = absurd (omega arith)
take-take (suc m) (suc d) [] h = refl
take-take (suc m) (suc d) (x ∷ xs) h = ap (λ zs. x ∷ zs) (take-take m d xs (omega arith))

-- a deeper item is skipped
pub resume-deeper : (e : FlatItem) (rest : List FlatItem) (level skip : ℕ) (es : List State) (s : State) → level < level_of e →
    resume (e ∷ rest) level skip es s ≡ resume rest level skip es s
unfolding resume
resume-deeper (Module here m control after) rest level skip es s h = cond-true (ltb level here) _ _ (lt-ltb _ _ h)
resume-deeper (Substack here) rest level skip es s h = cond-true (ltb level here) _ _ (lt-ltb _ _ h)

-- an item of the level is skipped while some are left to skip
pub resume-item : (e : FlatItem) (rest : List FlatItem) (level skip : ℕ) (es : List State) (s : State) → level_of e ≡ level → 0 < skip →
    resume (e ∷ rest) level skip es s ≡ resume rest level (skip - 1) es s
unfolding resume
resume-item (Module here m control after) rest level skip es s e h =
    cond-false (ltb level here) _ _ (le-ltb _ _ (omega arith))
    ∙ cond-true (eqb here level && ltb 0 skip) _ _ (and_from _ _ (eq-eqb _ _ e) (lt-ltb _ _ h))
resume-item (Substack here) rest level skip es s e h =
    cond-false (ltb level here) _ _ (le-ltb _ _ (omega arith))
    ∙ cond-true (eqb here level && ltb 0 skip) _ _ (and_from _ _ (eq-eqb _ _ e) (lt-ltb _ _ h))

stays : (here level skip : ℕ) → (here ≡ level → 0 < skip → ⊥) → (eqb here level && ltb 0 skip) ≡ false
stays here level zero h = and_right (eqb here level) _ refl
stays here level (suc k) h = and_left (eqb here level) _ (ne_eqb here level (λ e. h e (omega arith)))

-- a substack is entered
pub resume-sub : (here : ℕ) (rest : List FlatItem) (level skip : ℕ) (es : List State) (s : State) → here ≤ level → (here ≡ level → 0 < skip → ⊥) →
    resume (Substack here ∷ rest) level skip es s ≡ resume rest (here + 1) 0 (take (here + 1) es ++ s ∷ []) s
unfolding resume
resume-sub here rest level skip es s l h =
    cond-false (ltb level here) _ _ (le-ltb _ _ l)
    ∙ cond-false (eqb here level && ltb 0 skip) _ _ (stays here level skip h)

-- a module is asked
unfoldable pub ask_at : ℕ → ℕ → List Action → ℕ → List FlatItem → List State → State → Runs
ask_at here m control after rest es s = asks
    (record { module_number = m; control = control; state = s; entry = get_or es here start_state; after = after })
    (λ o. resume rest here (after - o.left) (take (here + 1) es) o.state)

pub asked_module-ask_at : (here m : ℕ) (control : List Action) (after : ℕ) (rest : List FlatItem) (es : List State) (s : State) →
    asked_module (ask_at here m control after rest es s) ≡ Some m
unfolding ask_at
asked_module-ask_at here m control after rest es s = refl

pub resume-module : (here m : ℕ) (control : List Action) (after : ℕ) (rest : List FlatItem) (level skip : ℕ) (es : List State) (s : State) →
    here ≤ level → (here ≡ level → 0 < skip → ⊥) →
    resume (Module here m control after ∷ rest) level skip es s ≡ ask_at here m control after rest es s
unfolding resume ask_at
resume-module here m control after rest level skip es s l h =
    cond-false (ltb level here) _ _ (le-ltb _ _ l)
    ∙ cond-false (eqb here level && ltb 0 skip) _ _ (stays here level skip h)

-- entry states deeper than the module's level are not used
pub ask_at-take : (here m : ℕ) (control : List Action) (after : ℕ) (rest : List FlatItem) (d : ℕ) (es : List State) (s : State) → here < d →
    ask_at here m control after rest (take d es) s ≡ ask_at here m control after rest es s
unfolding ask_at
ask_at-take here m control after rest d es s h =
    let e : get_or (take d es) here start_state ≡ get_or es here start_state = get_or-take d es here start_state h in
    let t : take (here + 1) (take d es) ≡ take (here + 1) es = take-take (here + 1) d es (omega arith) in
    ap (λ (x : State). asks (record { module_number = m; control = control; state = s; entry = x; after = after })
    (λ o. resume rest here (after - o.left) (take (here + 1) (take d es)) o.state)) e
    ∙ ap (λ (x : List State). asks (record { module_number = m; control = control; state = s; entry = get_or es here start_state; after = after })
    (λ o. resume rest here (after - o.left) x o.state)) t

-- the same, at a place of a list
module _ (program : List FlatItem) (at : ℕ) (d e : FlatItem) (within : at < length program) (is : get_or program at d ≡ e) where
  pub at_index : drop at program ≡ e ∷ drop (at + 1) program
  at_index = rw (add-one, drop-cons program at d) (ap (λ (x : FlatItem). x ∷ drop (suc at) program) is)

  pub at_index-deeper : (level skip : ℕ) (es : List State) (s : State) → level < level_of e →
      resume (drop (at + 1) program) level skip es s ≡ resume (drop at program) level skip es s
  at_index-deeper level skip es s h =
      sym (ap (λ (x : List FlatItem). resume x level skip es s) at_index ∙ resume-deeper e (drop (at + 1) program) level skip es s h)

  pub at_index-item : (level skip : ℕ) (es : List State) (s : State) → level_of e ≡ level → 0 < skip →
      resume (drop (at + 1) program) level (skip - 1) es s ≡ resume (drop at program) level skip es s
  at_index-item level skip es s l h =
      sym (ap (λ (x : List FlatItem). resume x level skip es s) at_index ∙ resume-item e (drop (at + 1) program) level skip es s l h)

taken : (here : ℕ) (held : List State) (s : State) → here + 1 < length held →
    take (here + 2) (slice_set held (here + 1) s) ≡ take (here + 1) held ++ s ∷ []
taken here held s fits = rw (add-suc, take-suc-set) refl

module _ (program : List FlatItem) (at : ℕ) (d : FlatItem) (here : ℕ) (within : at < length program) (is : get_or program at d ≡ Substack here)
    (held : List State) (depth level skip : ℕ) (s : State) where
  pub at_substack : here ≤ level → (here ≡ level → 0 < skip → ⊥) → level < depth → here + 1 < length held →
      resume (drop (at + 1) program) (here + 1) 0 (take (here + 2) (slice_set held (here + 1) s)) s
      ≡ resume (drop at program) level skip (take depth held) s
  at_substack low stays deep fits =
      let e1 : take (here + 2) (slice_set held (here + 1) s) ≡ take (here + 1) held ++ s ∷ [] = taken here held s fits in
      let e2 : take (here + 1) (take depth held) ≡ take (here + 1) held = take-take (here + 1) depth held (omega arith) in
      ap (λ (x : List State). resume (drop (at + 1) program) (here + 1) 0 x s) (e1 ∙ ap (λ (x : List State). x ++ s ∷ []) (sym e2))
      ∙ sym (ap (λ (x : List FlatItem). resume x level skip (take depth held) s) (at_index program at d (Substack here) within is)
      ∙ resume-sub here (drop (at + 1) program) level skip (take depth held) s low stays)

module _ (program : List FlatItem) (at : ℕ) (d : FlatItem) (here m : ℕ) (control : List Action) (after : ℕ) (within : at < length program)
    (is : get_or program at d ≡ Module here m control after) (held : List State) (s : State) where
  pub at_module-asks : (depth level skip : ℕ) → here ≤ level → (here ≡ level → 0 < skip → ⊥) → here < depth →
      resume (drop at program) level skip (take depth held) s ≡ ask_at here m control after (drop (at + 1) program) held s
  at_module-asks depth level skip low stays deep =
      ap (λ (x : List FlatItem). resume x level skip (take depth held) s) (at_index program at d (Module here m control after) within is)
      ∙ resume-module here m control after (drop (at + 1) program) level skip (take depth held) s low stays
      ∙ ask_at-take here m control after (drop (at + 1) program) depth held s (omega arith)

  pub at_module : (depth level skip : ℕ) → here ≤ level → (here ≡ level → 0 < skip → ⊥) → level < depth →
      resume (drop at program) (here + 1) 0 (take (here + 1) held) s ≡ resume (drop at program) level skip (take depth held) s
  at_module depth level skip low stays deep =
      at_module-asks (here + 1) (here + 1) 0 (omega arith) (λ e l. omega arith) (omega arith) ∙ sym (at_module-asks depth level skip low stays (omega arith))
