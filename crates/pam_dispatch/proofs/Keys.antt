-- The keys of places.
use Rattle.std.proofs.Common.{◌≡◌, ◌≢◌, ℕ, ◌+◌, ◌<◌, Bool, true, false, ◌||◌, List, [], ◌∷◌, refl, sym, ◌∙◌, ap, arith}
use Rattle.std.proofs.Common.{None, Some, Option, cond, inl, inr, length, slice_get, suc}
use Rattle.std.proofs.lemmas.Bool.{cases_lt, cond-false, cond-true, false≢true, le-ltb, lt-ltb}
use Rattle.std.specs.List.{AllByRecursion, IsDistinct, list_any, position, position_or_len}
use Rattle.std.specs.Option.{is_some}
use Rattle.std.specs.Prelude.{IfNone, IfSome, nat_lt, not}
use Rattle.pam_dispatch.specs.Hashing.{same_key}
use Rattle.pam_dispatch.specs.inner.Hashing.{same_key-self, same_key-true}
use Rattle.pam_dispatch.specs.Keys.{AreDifferent, DiffersFrom, KeyValue}

-- KEYS IN A LIST

apart : (k other : KeyValue) → same_key k other ≡ false → k ≢ other
apart k other h e = false≢true (sym h ∙ ap (same_key k) (sym e) ∙ same_key-self k)

or-first : (a b : Bool) → (a || b) ≡ false → a ≡ false
or-first true b e = absurd (false≢true (sym e))
or-first false b e = refl

or-second : (a b : Bool) → (a || b) ≡ false → b ≡ false
or-second true b e = absurd (false≢true (sym e))
or-second false b e = e

differs-none : (k : KeyValue) (ks : List KeyValue) → list_any (same_key k) ks ≡ false → DiffersFrom k ks
unfolding DiffersFrom
differs-none k [] h = tt
differs-none k (other ∷ ks) h =
    (apart k other (or-first (same_key k other) (list_any (same_key k) ks) h), differs-none k ks (or-second (same_key k other) (list_any (same_key k) ks) h))

differs-all : (k : KeyValue) (ks : List KeyValue) → AllByRecursion (λ other. same_key k other ≡ false) ks → DiffersFrom k ks
unfolding DiffersFrom
differs-all k [] h = tt
differs-all k (other ∷ ks) h = (apart k other h.0, differs-all k ks h.1)

pub distinct-different : (ks : List KeyValue) → IsDistinct same_key ks → AreDifferent ks
unfolding IsDistinct AreDifferent
distinct-different [] h = tt
distinct-different (k ∷ ks) h = (differs-all k ks h.0, distinct-different ks h.1)

-- a key that differs from all is not found
pub differs-any : (k : KeyValue) (ks : List KeyValue) → DiffersFrom k ks → list_any (same_key k) ks ≡ false
unfolding DiffersFrom
differs-any k [] h = refl
differs-any k (other ∷ ks) h =
    elim (same_key k other) as (λ (t : Bool). same_key k other ≡ t → (t || list_any (same_key k) ks) ≡ false) [
      | true ↦ λ e. absurd (h.0 (same_key-true k other e))
      | false ↦ λ e. differs-any k ks h.1
    ] refl

-- what a search gives
pub none-differs : (r : Option ℕ) (k : KeyValue) (ks : List KeyValue) → is_some r ≡ list_any (same_key k) ks → IfNone r (DiffersFrom k ks)
none-differs None k ks h = differs-none k ks (sym h)
none-differs (Some i) k ks h = tt

at-next : (other : KeyValue) (ks : List KeyValue) (n : ℕ) → slice_get (other ∷ ks) (1 + n) ≡ slice_get ks n
at-next other ks n = ap (slice_get (other ∷ ks)) (one_more n)
  where
    one_more : (n : ℕ) → 1 + n ≡ suc n
    one_more n = omega arith

first-at : (k : KeyValue) (ks : List KeyValue) → position_or_len (same_key k) ks < length ks → slice_get ks (position_or_len (same_key k) ks) ≡ Some k
first-at k [] l = absurd (omega arith)
first-at k (other ∷ ks) l =
    elim (same_key k other) as (λ (t : Bool). same_key k other ≡ t → cond (not t) (1 + position_or_len (same_key k) ks) 0 < length (other ∷ ks)
    → slice_get (other ∷ ks) (cond (not t) (1 + position_or_len (same_key k) ks) 0) ≡ Some k) [
      | true ↦ λ e m. ap (λ (x : KeyValue). Some x) (sym (same_key-true k other e))
      | false ↦ λ e m. at-next other ks (position_or_len (same_key k) ks) ∙ first-at k ks (omega (arith, m))
    ] refl l

pub found-at : (r : Option ℕ) (k : KeyValue) (ks : List KeyValue) → r ≡ position (same_key k) ks → IfSome r (λ i. slice_get ks i ≡ Some k)
found-at None k ks h = tt
found-at (Some i) k ks h =
    elim (cases_lt (position_or_len (same_key k) ks) (length ks)) [
      | inl l ↦
          let is : Some i ≡ Some (position_or_len (same_key k) ks) =
          h ∙ cond-true (nat_lt (position_or_len (same_key k) ks) (length ks)) _ _ (lt-ltb _ _ l) in
          let same : i ≡ position_or_len (same_key k) ks = cc in
          ap (slice_get ks) same ∙ first-at k ks l
      | inr l ↦
          let is : Some i ≡ None = h ∙ cond-false (nat_lt (position_or_len (same_key k) ks) (length ks)) _ _ (le-ltb _ _ l) in
          absurd (let bad : ⊥ = cc in bad)
    ]
