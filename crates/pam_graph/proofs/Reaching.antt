-- The places to which the runs of a program come.
use Rattle.std.proofs.Common.{◌≡◌, ◌≢◌, ℕ, ◌<◌, true, List, [], ◌∷◌, ◌++◌, Some, Result, Ok}
use Rattle.std.proofs.Common.{Err, map, refl, sym, ◌∙◌, ap, subst, arith, length, slice_get, slice_index_or, suc, zero}
use Rattle.std.proofs.lemmas.List.{map-append}
use Rattle.std.specs.Prelude.{IfErr, IsSome, OnOk}
use Rattle.pam_dispatch.specs.declared.flat_item.FlatItem.{FlatItem}
use Rattle.pam_dispatch.specs.declared.place.Place.{Place}
use Rattle.pam_dispatch.specs.Flat.{IsPlaceOf, rest_of, runs_of}
use Rattle.pam_dispatch.specs.Keys.{AreDifferent, DiffersFrom, KeyValue, rest_at}
use Rattle.pam_dispatch.specs.Runs.{AsksRise, Runs, after_answer, asked_module, asks, ends, outcome_of}
use Rattle.pam_graph.specs.declared.error.GraphError.{GraphError}
use Rattle.pam_graph.specs.declared.error.GraphError.TheVariants.{Memory, TooManyNodes}
use Rattle.pam_graph.specs.declared.node.Target.{Target}
use Rattle.pam_graph.specs.inner.Building.{IsBefore}
use Rattle.pam_graph.specs.Reached.{AreAllowed, AreReachedKeys, IsReached, IsReachedKey, IsReason, after_answers, node_key}
use Rattle.pam_paths.specs.Listing.{Allowance}

-- LATER MODULES

pub before-later : (m n : ℕ) (r q : Runs) → asked_module r ≡ Some m → AsksRise m n q → IsBefore r q
unfolding AsksRise
before-later m n (ends s) q asked rise = absurd (let k : ⊥ = cc in k)
before-later m n (asks ask next) (ends s) asked rise = tt
before-later m n (asks ask next) (asks later after) asked rise = let is : ask.module_number ≡ m = cc in omega (arith, is, rise.0)

pub before-trans : (m n : ℕ) (k r q : Runs) → IsBefore k r → asked_module r ≡ Some m → AsksRise m n q → IsBefore k q
unfolding AsksRise
before-trans m n (ends s) r q h asked rise = absurd h
before-trans m n (asks ask next) (ends s) q h asked rise = absurd (let k : ⊥ = cc in k)
before-trans m n (asks ask next) (asks one more) (ends s) h asked rise = tt
before-trans m n (asks ask next) (asks one more) (asks later after) h asked rise =
    let is : one.module_number ≡ m = cc in omega (arith, h, is, rise.0)

before-self : (r : Runs) → IsBefore r r → ⊥
before-self (ends s) h = h
before-self (asks ask next) h = omega (arith, h)

-- the key of an earlier place is another one
pub key-apart : (program : List FlatItem) (key other : KeyValue) → IsBefore (rest_at program key) (rest_at program other) → key ≢ other
key-apart program key other before same =
    before-self (rest_at program other) (subst (λ (k : KeyValue). IsBefore (rest_at program k) (rest_at program other)) same before)

pub DiffersFrom-push : (key other : KeyValue) (keys : List KeyValue) → DiffersFrom key keys → key ≢ other → DiffersFrom key (keys ++ other ∷ [])
unfolding DiffersFrom
DiffersFrom-push key other [] h k = (k, tt)
DiffersFrom-push key other (x ∷ keys) h k = (h.0, DiffersFrom-push key other keys h.1 k)

-- PLACES THAT ARE REACHED

answers-push : (runs : Runs) (codes : List ℕ) (code : ℕ) → after_answers runs (codes ++ code ∷ []) ≡ after_answer (after_answers runs codes) code
unfolding after_answers
answers-push runs [] code = refl
answers-push runs (c ∷ codes) code = answers-push (after_answer runs c) codes code

allowed-push : (allows : Allowance) (m : ℕ) (runs : Runs) (codes : List ℕ) (code : ℕ) → AreAllowed allows runs codes →
    asked_module (after_answers runs codes) ≡ Some m → code < 31 → allows m code ≡ true → AreAllowed allows runs (codes ++ code ∷ [])
unfolding AreAllowed after_answers
allowed-push allows m (ends s) [] code h asked low may = absurd (let k : ⊥ = cc in k)
allowed-push allows m (asks ask next) [] code h asked low may =
    let is : ask.module_number ≡ m = cc in (low, subst (λ (n : ℕ). allows n code ≡ true) (sym is) may, tt)
allowed-push allows m (ends s) (c ∷ codes) code h asked low may = absurd h
allowed-push allows m (asks ask next) (c ∷ codes) code h asked low may =
    (h.0, h.1, allowed-push allows m (next (outcome_of ask c)) codes code h.2 asked low may)

pub reached-on : (allows : Allowance) (program : List FlatItem) (m code : ℕ) (place after : Place) → IsReached allows program place →
    asked_module (rest_of program place) ≡ Some m → code < 31 → allows m code ≡ true → rest_of program after ≡ after_answer (rest_of program place) code →
    IsReached allows program after
reached-on allows program m code place after h asked low may is =
    let runs = runs_of program in (
      h.0 ++ code ∷ [],
      allowed-push allows m runs h.0 code h.1 (ap asked_module (sym h.2) ∙ asked) low may,
      is ∙ ap (λ (r : Runs). after_answer r code) h.2 ∙ sym (answers-push runs h.0 code),
    )

pub key-reached : (allows : Allowance) (program : List FlatItem) (place : Place) → IsPlaceOf program place → IsSome (asked_module (rest_of program place)) →
    IsReached allows program place → IsReachedKey allows program (node_key program place)
key-reached allows program place is asking reached =
    record { place = place; is_place = is; asks = asking; reached = reached; is_key = refl }

AreReachedKeys-push : (allows : Allowance) (program : List FlatItem) (keys : List KeyValue) (key : KeyValue) → AreReachedKeys allows program keys →
    IsReachedKey allows program key → AreReachedKeys allows program (keys ++ key ∷ [])
unfolding AreReachedKeys
AreReachedKeys-push allows program [] key h k = (k, tt)
AreReachedKeys-push allows program (x ∷ keys) key h k = (h.0, AreReachedKeys-push allows program keys key h.1 k)

module _ (limit : ℕ) (allows : Allowance) (program : List FlatItem) where
  -- a place is added
  pub added-keys : (old new : List KeyValue) (key : KeyValue) (result : Result Target GraphError) → AreReachedKeys allows program old →
      IsReachedKey allows program key → OnOk result (new ≡ old ++ key ∷ []) → OnOk result (AreReachedKeys allows program new)
  added-keys old new key (Ok target) h k is = subst (AreReachedKeys allows program) (sym is) (AreReachedKeys-push allows program old key h k)
  added-keys old new key (Err e) h k is = tt

  pub added-apart : (old new : List KeyValue) (key other : KeyValue) (result : Result Target GraphError) → DiffersFrom key old → key ≢ other →
      OnOk result (new ≡ old ++ other ∷ []) → OnOk result (DiffersFrom key new)
  added-apart old new key other (Ok target) h k is = subst (DiffersFrom key) (sym is) (DiffersFrom-push key other old h k)
  added-apart old new key other (Err e) h k is = tt

  pub added-reason : (old : List KeyValue) (key : KeyValue) (result : Result Target GraphError) → AreReachedKeys allows program old →
      IsReachedKey allows program key →
      IfErr result (λ e. e ≡ TooManyNodes → (keys : List KeyValue) × (keys ≡ old ++ key ∷ []) × (limit < length keys) × AreDifferent keys) →
      IfErr result (IsReason limit allows program)
  added-reason old key (Ok target) h k many = tt
  added-reason old key (Err Memory) h k many = tt
  added-reason old key (Err TooManyNodes) h k many =
      let found = many refl in
      (found.0, found.2, found.3, subst (AreReachedKeys allows program) (sym found.1) (AreReachedKeys-push allows program old key h k))

-- FOUND AND ADDED KEYS

pub get-at : (keys : List KeyValue) (i : ℕ) (key : KeyValue) → slice_get keys i ≡ Some key → (i < length keys) × (slice_index_or keys i key ≡ key)
get-at [] i key h = absurd (let k : ⊥ = cc in k)
get-at (x ∷ keys) zero key h = (omega arith, let is : x ≡ key = cc in is)
get-at (x ∷ keys) (suc i) key h = let k = get-at keys i key h in (omega (arith, k.0), k.1)

pub added-rests : (program : List FlatItem) (old new : List KeyValue) (key : KeyValue) (result : Result Target GraphError) →
    OnOk result (new ≡ old ++ key ∷ []) → OnOk result (map (rest_at program) new ≡ map (rest_at program) old ++ rest_at program key ∷ [])
added-rests program old new key (Ok target) at = ap (map (rest_at program)) at ∙ map-append (rest_at program) old (key ∷ [])
added-rests program old new key (Err e) at = tt
