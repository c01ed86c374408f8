-- The levels of the lists whose entry states a reset can still read, as they are stored.
use Rattle.std.proofs.Common.{◌≡◌, ℕ, ◌+◌, ◌-◌, ◌<◌, ◌≤◌, Bool, false, ◌&&◌, ◌||◌, List, [], ◌∷◌, refl, sym, ◌∙◌, ap, arith, cond, eqb, get_or}
use Rattle.std.proofs.Common.{inl, inr, length, ltb, replicate, slice_get, slice_set, Some, suc, take, true, zero}
use Rattle.std.specs.List.{list_any}
use Rattle.std.proofs.lemmas.Bool.{and_left, cases_lt, cond-false, cond-true, eq-eqb, le-ltb, lt-ltb, ne_eqb}
use Rattle.std.proofs.lemmas.List.{get_or-set_other, get_or-set_same, length-set}
use Rattle.std.proofs.lemmas.List.Folds.{list_any_at, list_any_more}
use Rattle.std.proofs.lemmas.Option.{get_or_from_slice_get, slice_get_within}
use Rattle.pam_codes.specs.declared.action.Action.{Action}
use Rattle.pam_dispatch.specs.declared.flat_item.FlatItem.{FlatItem}
use Rattle.pam_dispatch.specs.declared.flat_item.FlatItem.TheVariants.{Module, Substack}
use Rattle.pam_dispatch.specs.declared.state.State.{State}
use Rattle.pam_dispatch.specs.State.{start_state}
use Rattle.pam_dispatch.specs.Flat.{level_of}
use Rattle.pam_dispatch.specs.inner.Flat.{IsBounded}
use Rattle.pam_dispatch.specs.inner.ReadLevels.{AreReadLevels}
use Rattle.pam_dispatch.specs.Representatives.{is_read, is_reset, resets}

-- RESETS

pub reset-at : (control : List Action) (code : ℕ) (a : Action) → slice_get control code ≡ Some a → is_reset a ≡ true → list_any is_reset control ≡ true
reset-at control code a at is =
    list_any_at is_reset control code a (slice_get_within control code a at) (ap is_reset (get_or_from_slice_get control code a a at) ∙ is)

pub resets-more : (control : List Action) (code : ℕ) (a : Action) → list_any is_reset (take code control) ≡ false → slice_get control code ≡ Some a →
    is_reset a ≡ false → list_any is_reset (take (code + 1) control) ≡ false
resets-more control code a none at is =
    list_any_more is_reset control code a (slice_get_within control code a at)
    ∙ ap (λ (b : Bool). b || is_reset (get_or control code a)) none
    ∙ ap is_reset (get_or_from_slice_get control code a a at) ∙ is

-- STORED LEVELS

-- the level of an item of a program is that of a list that can be open
pub level-bounded : (item : FlatItem) → IsBounded item → level_of item < 16
level-bounded (Module here number control after) h = h.0
level-bounded (Substack here) h = omega (arith, h)

-- nothing is read after the end
pub levels-end : (levels : List Bool) → levels ≡ replicate 16 false → AreReadLevels [] levels
unfolding is_read
levels-end levels is = record {
  long = ap (λ (l : List Bool). length l) is;
  each = λ level low. ap (λ (l : List Bool). get_or l level false) is ∙ none level 16;
}
  where
    none : (level n : ℕ) → get_or (replicate n false) level false ≡ false
    none level zero = refl
    none zero (suc n) = refl
    none (suc level) (suc n) = none level n

-- the levels from an item on: those above its own are not read, its own is if it resets or the level is read later
pub levels-item : (item : FlatItem) (rest : List FlatItem) (after levels : List Bool) (own : Bool) → AreReadLevels rest after → level_of item < 16 →
    length levels ≡ length after → ((n : ℕ) → n ≤ level_of item → get_or levels n false ≡ get_or after n false) →
    ((n : ℕ) → level_of item < n → n < 16 → get_or levels n false ≡ false) → own ≡ (resets item || get_or levels (level_of item) false) →
    AreReadLevels (item ∷ rest) (slice_set levels (level_of item) own)
unfolding is_read
levels-item item rest after levels own read bounded long low high is = record {
  long = length-set levels here own ∙ long ∙ read.long;
  each = λ n small. elim (cases_lt here n) [
    | inl above ↦
        get_or-set_other levels here n own false (λ e. omega (arith, above, e)) ∙ high n above small
        ∙ sym (cond-true (ltb here n) false _ (lt-ltb here n above))
    | inr below ↦ elim (cases_lt n here) [
      | inl under ↦
          get_or-set_other levels here n own false (λ e. omega (arith, under, e)) ∙ low n below ∙ read.each n small
          ∙ ap (λ (b : Bool). b || is_read n rest) (sym (and_left (eqb here n) (resets item) (ne_eqb here n (λ e. omega (arith, under, e)))))
          ∙ sym (cond-false (ltb here n) false _ (le-ltb here n below))
      | inr over ↦
          let same : n ≡ here = omega (arith, below, over) in
          let fits : here < length levels = omega (arith, long, read.long, bounded) in
          ap (λ (k : ℕ). get_or (slice_set levels here own) k false) same
          ∙ get_or-set_same levels here own false fits
          ∙ is ∙ ap (λ (b : Bool). resets item || b) (low here (omega arith) ∙ read.each here bounded)
          ∙ ap (λ (b : Bool). (b && resets item) || is_read here rest) (sym (eq-eqb here here refl))
          ∙ sym (cond-false (ltb here here) false _ (le-ltb here here (omega arith)))
          ∙ ap (λ (k : ℕ). is_read k (item ∷ rest)) (sym same)
    ]
  ];
}
  where
    here : ℕ
    here = level_of item

-- ENTRY STATES THAT ARE KEPT

module _ (levels : List Bool) (old now : List State) (at : ℕ) where
  abbrev Before : ℕ → List State → Type 0
  Before end states = (n : ℕ) → n < end → get_or states n start_state ≡ cond (get_or levels n false) (get_or old n start_state) start_state

  abbrev After : ℕ → List State → Type 0
  After end states = (n : ℕ) → end ≤ n → get_or states n start_state ≡ get_or old n start_state

  -- the state of a level that is kept
  pub before-kept : Before at now → After at now → get_or levels at false ≡ true → Before (at + 1) now
  before-kept before after is n small =
      elim (cases_lt n at) [
        | inl k ↦ before n k
        | inr k ↦
            let same : n ≡ at = omega (arith, small, k) in
            after n k ∙ sym (ap (λ (b : Bool). cond b (get_or old n start_state) start_state) (ap (λ (i : ℕ). get_or levels i false) same ∙ is))
      ]

  -- that of one that is not kept
  pub before-cleared : Before at now → get_or levels at false ≡ false → at < length now → Before (at + 1) (slice_set now at start_state)
  before-cleared before is fits n small =
      elim (cases_lt n at) [
        | inl k ↦ get_or-set_other now at n start_state start_state (λ e. omega (arith, k, e)) ∙ before n k
        | inr k ↦
            let same : n ≡ at = omega (arith, small, k) in
            ap (λ (i : ℕ). get_or (slice_set now at start_state) i start_state) same
            ∙ get_or-set_same now at start_state start_state fits
            ∙ sym (ap (λ (b : Bool). cond b (get_or old n start_state) start_state) (ap (λ (i : ℕ). get_or levels i false) same ∙ is))
      ]

  pub after-cleared : After at now → After (at + 1) (slice_set now at start_state)
  after-cleared after n k = get_or-set_other now at n start_state start_state (λ e. omega (arith, k, e)) ∙ after n (omega (arith, k))
