-- Modules that a stack has yet to ask, and what is held of them.
use Rattle.std.proofs.Common.{◌≡◌, ◌≢◌, ◌<◌, ◌≤◌, ◌+◌, ◌⊎◌, ◌∙◌, ◌&&◌, inl, inr, ℕ, zero, suc, Bool, true, false, cond, eqb, eq-eqb}
use Rattle.std.proofs.Common.{List, [], ◌∷◌, ◌++◌, Option, Some, None, drop, filter, length, ap, arith, refl, sym}
use Rattle.std.specs.List.{list_any, range_with_len}
use Rattle.std.specs.Prelude.{nat_le, not, slice_get, take}
use Rattle.std.proofs.lemmas.Bool.{and_from, and_parts, cases_eq, eqb-true, false≢true, le-leb, leb-true, or_cases, or_left, or_right}
use Rattle.pam_compare.specs.declared.held.HeldAnswer.{HeldAnswer}
use Rattle.pam_compare.specs.declared.turn.Turn.{Turn}
use Rattle.pam_compare.specs.declared.turn.Turn.TheVariants.{Old, New, Both}
use Rattle.pam_compare.specs.Names.{name_of}
use Rattle.pam_compare.specs.Walks.{is_ahead, may_ask, turn_name}
use Rattle.pam_compare.specs.inner.Held.{IsNumber, is_wanted}
use Rattle.pam_compare.specs.inner.Naming.{AreFound, AreLast}
use Rattle.pam_compare.specs.inner.Turn.{IsTurn, PassesNoOther, StaysThere}

-- TESTS

any-in : (test : ℕ → Bool) (a n j : ℕ) → a ≤ j → j < a + n → test j ≡ true → list_any test (range_with_len a n) ≡ true
any-in test a zero j low high t = absurd (omega (arith, low, high))
any-in test a (suc n) j low high t =
    elim (cases_eq a j) [
      | inl same ↦ or_left (test a) _ (ap test same ∙ t)
      | inr other ↦ or_right (test a) _ (any-in test (a + 1) n j (omega (arith, low, other)) (omega (arith, high)) t)
    ]

pub record IsIn (test : ℕ → Bool) (a n : ℕ) : Type 0 where
  pub number : ℕ
  pub low : a ≤ number
  pub high : number < a + n
  pub passes : test number ≡ true

any-from : (test : ℕ → Bool) (a n : ℕ) → list_any test (range_with_len a n) ≡ true → IsIn test a n
any-from test a zero e = absurd (false≢true e)
any-from test a (suc n) e =
    elim (or_cases (test a) _ e) [
      | inl here ↦ record { number = a; low = omega arith; high = omega arith; passes = here }
      | inr later ↦
          let r = any-from test (a + 1) n later in
          let low = r.low in
          let high = r.high in
          record { number = r.number; low = omega (arith, low); high = omega (arith, high); passes = r.passes }
    ]

-- A MODULE THAT IS ASKED NEXT, OR LATER

some-is : (i j : ℕ) → Some i ≡ Some j → i ≡ j
some-is i j e = cc

may-ask : (next : Option ℕ) (number : ℕ) → may_ask next number ≡ true → (i : ℕ) × (next ≡ Some i) × (i ≤ number)
may-ask None number e = absurd (false≢true e)
may-ask (Some i) number e = (i, refl, leb-true i number e)

asks-later : (next : Option ℕ) (i number : ℕ) → next ≡ Some i → i ≤ number → may_ask next number ≡ true
asks-later next i number e low = ap (λ (o : Option ℕ). may_ask o number) e ∙ le-leb i number low

module _ (names : List ℕ) (count modules : ℕ) where
  -- a module of the old stack, or one of the new stack, that is yet to be asked
  abbrev pub IsOldAhead : ℕ → Option ℕ → Type 0
  IsOldAhead name old = (name ≤ count) × (may_ask old name ≡ true)

  pub record IsNewAhead (name : ℕ) (new : Option ℕ) : Type 0 where
    pub number : ℕ
    pub low : 1 ≤ number
    pub high : number ≤ modules
    pub name_is : name_of names number ≡ name
    pub ahead : may_ask new number ≡ true

  pub ahead-cases : (name : ℕ) (old new : Option ℕ) → is_ahead names count modules name old new ≡ true → IsOldAhead name old ⊎ IsNewAhead name new
  unfolding is_ahead
  ahead-cases name old new e =
      elim (or_cases (nat_le name count && may_ask old name) _ e) [
        | inl here ↦ let parts = and_parts (nat_le name count) (may_ask old name) here in inl (leb-true name count parts.0, parts.1)
        | inr there ↦
            let r = any-from (λ j. eqb (name_of names j) name && may_ask new j) 1 modules there in
            let low = r.low in
            let high = r.high in
            let parts = and_parts (eqb (name_of names r.number) name) (may_ask new r.number) r.passes in
            inr (record { number = r.number; low = low; high = omega (arith, high); name_is = eqb-true (name_of names r.number) name parts.0; ahead = parts.1 })
      ]

  pub old-ahead : (name : ℕ) (old new : Option ℕ) → name ≤ count → may_ask old name ≡ true → is_ahead names count modules name old new ≡ true
  unfolding is_ahead
  old-ahead name old new most ahead =
      or_left (nat_le name count && may_ask old name) _ (and_from (nat_le name count) (may_ask old name) (le-leb name count most) ahead)

  pub new-ahead : (name : ℕ) (old new : Option ℕ) (j : ℕ) → 1 ≤ j → j ≤ modules → name_of names j ≡ name → may_ask new j ≡ true →
      is_ahead names count modules name old new ≡ true
  unfolding is_ahead
  new-ahead name old new j low high is ahead =
      or_right (nat_le name count && may_ask old name) _
      (any-in (λ j. eqb (name_of names j) name && may_ask new j) 1 modules j low (omega (arith, high))
      (and_from (eqb (name_of names j) name) (may_ask new j) (eq-eqb (name_of names j) name is) ahead))

  -- if any new module with a name is yet to be asked, the last one is
  pub last-ahead : (last : List ℕ) (name : ℕ) (new : Option ℕ) → length names ≡ modules + 1 → AreLast names last → IsNewAhead name new →
      may_ask new (name_of last name) ≡ true
  unfolding AreLast
  last-ahead last name new size are n =
      let asked = may-ask new n.number n.ahead in
      let least = asked.2 in
      let low = n.low in
      let high = n.high in
      let most : n.number ≤ name_of last (name_of names n.number) = are n.number (omega (arith, low)) (omega (arith, high, size)) in
      let same : name_of last (name_of names n.number) ≡ name_of last name = ap (name_of last) n.name_is in
      asks-later new asked.0 (name_of last name) asked.1 (omega (arith, least, most, same))

  pub ahead-last : (last : List ℕ) (name : ℕ) (old new : Option ℕ) → length names ≡ modules + 1 → AreFound names last → IsNumber new →
      may_ask new (name_of last name) ≡ true → is_ahead names count modules name old new ≡ true
  unfolding AreFound
  ahead-last last name old new size found positive e =
      let asked = may-ask new (name_of last name) e in
      let first = positive asked.0 asked.1 in
      let least = asked.2 in
      let there = found name (omega (arith, first, least)) in
      let within = there.0 in
      new-ahead name old new (name_of last name) (omega (arith, first, least)) (omega (arith, within, size)) there.1 e

  -- WHAT IS YET TO BE ASKED AFTER A STEP

  one-later : (before after : Option ℕ) (i number : ℕ) → before ≡ Some i → after ≡ Some (i + 1) → number ≢ i → may_ask before number ≡ true →
      may_ask after number ≡ true
  one-later before after i number is next other e =
      let asked = may-ask before number e in
      let same : asked.0 ≡ i = some-is asked.0 i (sym asked.1 ∙ is) in
      let low = asked.2 in
      asks-later after (i + 1) number next (omega (arith, same, low, other))

  old-on : (turn : Turn) (old_before new_before old new : Option ℕ) (name : ℕ) → IsTurn names old_before new_before turn →
      StaysThere turn old_before new_before old new → PassesNoOther turn old new →
      name ≢ turn_name names turn → may_ask old_before name ≡ true → may_ask old name ≡ true
  old-on (Old i) old_before new_before old new name is stays passes other e = one-later old_before old i name is passes other e
  old-on (New j) old_before new_before old new name is stays passes other e = ap (λ (o : Option ℕ). may_ask o name) stays ∙ e
  old-on (Both i j) old_before new_before old new name is stays passes other e = one-later old_before old i name is.0 passes.0 other e

  new-on : (turn : Turn) (old_before new_before old new : Option ℕ) (k : ℕ) → IsTurn names old_before new_before turn →
      StaysThere turn old_before new_before old new → PassesNoOther turn old new →
      name_of names k ≢ turn_name names turn → may_ask new_before k ≡ true → may_ask new k ≡ true
  new-on (Old i) old_before new_before old new k is stays passes other e = ap (λ (o : Option ℕ). may_ask o k) stays ∙ e
  new-on (New j) old_before new_before old new k is stays passes other e = one-later new_before new j k is passes (λ same. other (ap (name_of names) same)) e
  new-on (Both i j) old_before new_before old new k is stays passes other e =
      one-later new_before new j k is.1 passes.1 (λ same. other (ap (name_of names) same ∙ is.2)) e

  pub still-ahead : (turn : Turn) (old_before new_before old new : Option ℕ) (name : ℕ) → IsTurn names old_before new_before turn →
      StaysThere turn old_before new_before old new → PassesNoOther turn old new → name ≢ turn_name names turn →
      is_ahead names count modules name old_before new_before ≡ true → is_ahead names count modules name old new ≡ true
  still-ahead turn old_before new_before old new name is stays passes other e =
      elim (ahead-cases name old_before new_before e) [
        | inl here ↦ old-ahead name old new here.0 (old-on turn old_before new_before old new name is stays passes other here.1)
        | inr n ↦ new-ahead name old new n.number n.low n.high n.name_is
            (new-on turn old_before new_before old new n.number is stays passes (λ same. other (sym n.name_is ∙ same)) n.ahead)
      ]

  -- a held answer of another name that is yet to be asked is wanted
  pub wanted : (answered : ℕ) (old new : Option ℕ) (name : ℕ) → name ≢ answered → is_ahead names count modules name old new ≡ true →
      is_wanted names count modules answered old new name ≡ true
  wanted answered old new name other e =
      let t : eqb name answered ≡ false = search (arith, other) in
      and_from (not (eqb name answered)) _ (ap not t) e

-- LISTS

-- a test that all pass leaves the list as it is
pub all-kept : (test : HeldAnswer → Bool) (xs : List HeldAnswer) → ((i : ℕ) (h : HeldAnswer) → slice_get xs i ≡ Some h → test h ≡ true) → filter test xs ≡ xs
all-kept test [] all = refl
all-kept test (x ∷ xs) all =
    ap (λ (b : Bool). cond b (x ∷ filter test xs) (filter test xs)) (all 0 x refl)
    ∙ ap (λ (l : List HeldAnswer). x ∷ l) (all-kept test xs (λ i h at. all (suc i) h at))

filter-append : (test : HeldAnswer → Bool) (xs ys : List HeldAnswer) → filter test (xs ++ ys) ≡ filter test xs ++ filter test ys
filter-append test [] ys = refl
filter-append test (x ∷ xs) ys =
    elim (test x) as (λ (b : Bool). cond b (x ∷ filter test (xs ++ ys)) (filter test (xs ++ ys))
    ≡ cond b (x ∷ filter test xs) (filter test xs) ++ filter test ys) [
      | true ↦ ap (λ (l : List HeldAnswer). x ∷ l) (filter-append test xs ys)
      | false ↦ filter-append test xs ys
    ]

-- the front of a list, one longer
pub filter-take : (test : HeldAnswer → Bool) (xs : List HeldAnswer) (k : ℕ) (x : HeldAnswer) → slice_get xs k ≡ Some x →
    filter test (take (k + 1) xs) ≡ filter test (take k xs) ++ cond (test x) (x ∷ []) []
filter-take test [] k x at = cc
filter-take test (y ∷ xs) zero x at =
    let same : y ≡ x = cc in ap (λ (z : HeldAnswer). cond (test z) (z ∷ []) []) same
filter-take test (y ∷ xs) (suc k) x at =
    let more : suc k + 1 ≡ suc (k + 1) = omega arith in
    ap (λ (n : ℕ). filter test (take n (y ∷ xs))) more
    ∙ (elim (test y) as (λ (b : Bool). cond b (y ∷ filter test (take (k + 1) xs)) (filter test (take (k + 1) xs))
    ≡ cond b (y ∷ filter test (take k xs)) (filter test (take k xs)) ++ cond (test x) (x ∷ []) []) [
      | true ↦ ap (λ (l : List HeldAnswer). y ∷ l) (filter-take test xs k x at)
      | false ↦ filter-take test xs k x at
    ])

pub append-none : (xs : List HeldAnswer) → xs ++ [] ≡ xs
append-none [] = refl
append-none (x ∷ xs) = ap (λ (l : List HeldAnswer). x ∷ l) (append-none xs)

pub append-append : (xs ys zs : List HeldAnswer) → (xs ++ ys) ++ zs ≡ xs ++ (ys ++ zs)
append-append [] ys zs = refl
append-append (x ∷ xs) ys zs = ap (λ (l : List HeldAnswer). x ∷ l) (append-append xs ys zs)

take-drop : (xs : List HeldAnswer) (k : ℕ) → take k xs ++ drop k xs ≡ xs
take-drop xs zero = refl
take-drop [] (suc k) = refl
take-drop (x ∷ xs) (suc k) = ap (λ (l : List HeldAnswer). x ∷ l) (take-drop xs k)

dropped-at : (xs : List HeldAnswer) (start i : ℕ) (h : HeldAnswer) → slice_get (drop start xs) i ≡ Some h → slice_get xs (start + i) ≡ Some h
dropped-at xs zero i h at = let same : 0 + i ≡ i = omega arith in ap (slice_get xs) same ∙ at
dropped-at [] (suc start) i h at = cc
dropped-at (x ∷ xs) (suc start) i h at =
    let same : suc start + i ≡ suc (start + i) = omega arith in ap (slice_get (x ∷ xs)) same ∙ dropped-at xs start i h at

-- a list of which all from an index on pass
pub filter-end : (test : HeldAnswer → Bool) (xs : List HeldAnswer) (start : ℕ) →
    ((i : ℕ) (h : HeldAnswer) → slice_get xs i ≡ Some h → start ≤ i → test h ≡ true) → filter test (take start xs) ++ drop start xs ≡ filter test xs
filter-end test xs start all =
    ap (λ (l : List HeldAnswer). filter test (take start xs) ++ l)
    (sym (all-kept test (drop start xs) (λ i h at. all (start + i) h (dropped-at xs start i h at) (omega arith))))
    ∙ sym (filter-append test (take start xs) (drop start xs)) ∙ ap (filter test) (take-drop xs start)

-- each that is left by a test passes it
pub filter-passes : (test : HeldAnswer → Bool) (xs : List HeldAnswer) (i : ℕ) (h : HeldAnswer) → slice_get (filter test xs) i ≡ Some h → test h ≡ true
filter-passes test [] i h at = cc
filter-passes test (x ∷ xs) i h at =
    elim (test x) as (λ (b : Bool). test x ≡ b → slice_get (cond b (x ∷ filter test xs) (filter test xs)) i ≡ Some h → test h ≡ true) [
      | true ↦ λ e g. first i e (λ k. filter-passes test xs k h) g
      | false ↦ λ e g. filter-passes test xs i h g
    ] refl at
  where
    first : (i : ℕ) → test x ≡ true → ((k : ℕ) → slice_get (filter test xs) k ≡ Some h → test h ≡ true) →
        slice_get (x ∷ filter test xs) i ≡ Some h → test h ≡ true
    first zero e later g = let same : x ≡ h = cc in ap test (sym same) ∙ e
    first (suc i) e later g = later i g
