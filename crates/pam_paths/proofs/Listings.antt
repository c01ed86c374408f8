use Rattle.std.proofs.Common.{◌≡◌, ℕ, ◌+◌, ◌<◌, ◌≤◌, true, List, [], ◌∷◌, ◌++◌, map, cond, eqb, zero, suc, refl, sym, ◌∙◌, ap, subst, inl, inr, ◌⊎◌, arith}
use Rattle.std.specs.Prelude.{◌==◌}
use Rattle.std.specs.List.{list_any}
use Rattle.std.proofs.lemmas.Bool.{eqb-true, eq-eqb, and_parts, cases_eq, cases_lt, cond_both, cond-true, cond-false, ne_eqb}
use Rattle.pam_dispatch.specs.declared.step.Outcome.{Outcome}
use Rattle.pam_paths.proofs.Alike.{Member-codes, Member-codes_back, of_class, least_of_class, least_is_offered, list_any_back}
use Rattle.pam_codes.specs.Code.{all_codes}
use Rattle.pam_dispatch.specs.Runs.{Ask, AsksRise, Assignment, Runs, asks, ends, outcome_of, asked_by, final_state}
use Rattle.pam_text.specs.Members.{Member}
use Rattle.pam_paths.specs.Classes.{class_at, class_of, least}
use Rattle.pam_paths.specs.Computed.{branches, is_offered, listing}
use Rattle.pam_paths.specs.Listing.{Allowance, IsAllowed, IsLawful, IsListing}
use Rattle.pam_paths.specs.Computed.{after_step}
use Rattle.pam_paths.specs.Paths.{Precedes, PrecedesAll, IsRising, PathValue, StepValue, key, key_of, path_of, step_of}
use Rattle.std.specs.List.{range_with_len}

-- members of joined lists, and of a map
pub Member-left : {X : Type 0} (x : X) (xs ys : List X) → Member x xs → Member x (xs ++ ys)
unfolding Member
Member-left x [] ys h = absurd h
Member-left x (z ∷ zs) ys (inl e) = inl e
Member-left x (z ∷ zs) ys (inr h) = inr (Member-left x zs ys h)

pub Member-right : {X : Type 0} (x : X) (xs ys : List X) → Member x ys → Member x (xs ++ ys)
unfolding Member
Member-right x [] ys h = h
Member-right x (z ∷ zs) ys h = inr (Member-right x zs ys h)

pub Member-cases : {X : Type 0} (x : X) (xs ys : List X) → Member x (xs ++ ys) → Member x xs ⊎ Member x ys
unfolding Member
Member-cases x [] ys h = inr h
Member-cases x (z ∷ zs) ys (inl e) = inl (inl e)
Member-cases x (z ∷ zs) ys (inr h) = elim (Member-cases x zs ys h) [ inl k ↦ inl (inr k) | inr k ↦ inr k ]

pub Member-map : {X Y : Type 0} (f : X → Y) (x : X) (xs : List X) → Member x xs → Member (f x) (map f xs)
unfolding Member
Member-map f x [] h = h
Member-map f x (z ∷ zs) (inl e) = inl (ap f e)
Member-map f x (z ∷ zs) (inr h) = inr (Member-map f x zs h)

pub Member-map_back : {X Y : Type 0} (f : X → Y) (y : Y) (xs : List X) → Member y (map f xs) → (x : X) × Member x xs × (y ≡ f x)
unfolding Member
Member-map_back f y [] h = absurd h
Member-map_back f y (z ∷ zs) (inl e) = (z, inl refl, e)
Member-map_back f y (z ∷ zs) (inr h) = let k = Member-map_back f y zs h in (k.0, inr k.1, k.2)

-- a path of the branches
pub record InBranch (allows : Allowance) (ask : Ask) (below : Outcome → List PathValue) (cs : List ℕ) (p : PathValue) : Type 0 where
  pub code : ℕ
  pub among : Member code cs
  pub offered : is_offered allows ask code ≡ true
  pub rest : PathValue
  pub inside : Member rest (below (outcome_of ask code))
  pub is : p ≡ after_step (step_of ask code) rest

pub branches-member : (allows : Allowance) (ask : Ask) (below : Outcome → List PathValue) (cs : List ℕ) (p : PathValue) →
    InBranch allows ask below cs p → Member p (branches allows ask below cs)
unfolding Member branches
branches-member allows ask below [] p b = absurd b.among
branches-member allows ask below (c ∷ cs) p b =
    elim b.among [
      | inl e ↦
          let f : PathValue → PathValue = after_step (step_of ask c) in
          let offered : is_offered allows ask c ≡ true = ap (is_offered allows ask) (sym e) ∙ b.offered in
          let whole : List PathValue = map f (below (outcome_of ask c)) in
          let inside : Member b.rest (below (outcome_of ask c)) = subst (λ x. Member b.rest (below (outcome_of ask x))) e b.inside in
          let is : p ≡ f b.rest = b.is ∙ ap (λ x. after_step (step_of ask x) b.rest) e in
          let there : Member p whole = subst (λ x. Member x whole) (sym is) (Member-map f b.rest _ inside) in
          Member-left p (cond (is_offered allows ask c) whole []) (branches allows ask below cs)
          (subst (λ l. Member p l) (sym (cond-true (is_offered allows ask c) whole [] offered)) there)
      | inr h ↦ Member-right p (cond (is_offered allows ask c) (map (after_step (step_of ask c)) (below (outcome_of ask c))) [])
          (branches allows ask below cs) (branches-member allows ask below cs p
          (record { code = b.code; among = h; offered = b.offered; rest = b.rest; inside = b.inside; is = b.is }))
    ]

pub branches-back : (allows : Allowance) (ask : Ask) (below : Outcome → List PathValue) (cs : List ℕ) (p : PathValue) →
    Member p (branches allows ask below cs) → InBranch allows ask below cs p
unfolding Member branches
branches-back allows ask below [] p h = absurd h
branches-back allows ask below (c ∷ cs) p h =
    let f : PathValue → PathValue = after_step (step_of ask c) in
    let first = cond (is_offered allows ask c) (map f (below (outcome_of ask c))) [] in
    elim (Member-cases p first (branches allows ask below cs) h) [
      | inl k ↦
          cond_both (is_offered allows ask c) (map f (below (outcome_of ask c))) []
          (λ l. Member p l → InBranch allows ask below (c ∷ cs) p)
          (λ t i. let m = Member-map_back f p (below (outcome_of ask c)) i in
          record { code = c; among = inl refl; offered = t; rest = m.0; inside = m.1; is = m.2 })
          (λ t i. absurd i)
          k
      | inr k ↦
          let b = branches-back allows ask below cs p k in
          record { code = b.code; among = inr b.among; offered = b.offered; rest = b.rest; inside = b.inside; is = b.is }
    ]

-- a key that precedes each member precedes all
pub PrecedesAll-from : (k : List ℕ) (ps : List PathValue) → ((p : PathValue) → Member p ps → Precedes k (key p)) → PrecedesAll k ps
unfolding Member PrecedesAll
PrecedesAll-from k [] h = tt
PrecedesAll-from k (p ∷ ps) h = (h p (inl refl), PrecedesAll-from k ps (λ q m. h q (inr m)))

pub PrecedesAll-at : (k : List ℕ) (ps : List PathValue) (p : PathValue) → PrecedesAll k ps → Member p ps → Precedes k (key p)
unfolding Member PrecedesAll
PrecedesAll-at k [] p b h = absurd h
PrecedesAll-at k (q ∷ ps) p b (inl e) = subst (λ x. Precedes k (key x)) (sym e) b.0
PrecedesAll-at k (q ∷ ps) p b (inr h) = PrecedesAll-at k ps p b.1 h

pub IsRising-append : (xs ys : List PathValue) → IsRising xs → IsRising ys →
    ((x y : PathValue) → Member x xs → Member y ys → Precedes (key x) (key y)) → IsRising (xs ++ ys)
unfolding Member IsRising
IsRising-append [] ys rx ry h = ry
IsRising-append (x ∷ xs) ys rx ry h = (
  PrecedesAll-from (key x) (xs ++ ys) (λ q m. elim (Member-cases q xs ys m) [
    | inl i ↦ PrecedesAll-at (key x) xs q rx.0 i
    | inr i ↦ h x q (inl refl) i
  ]),
  IsRising-append xs ys rx.1 ry (λ a b i j. h a b (inr i) j),
)

pub PrecedesAll-map : (step : StepValue) (k : List ℕ) (ps : List PathValue) → PrecedesAll k ps → PrecedesAll (least step.class ∷ k) (map (after_step step) ps)
unfolding PrecedesAll Precedes key_of
PrecedesAll-map step k [] h = tt
PrecedesAll-map step k (p ∷ ps) h = (inr (refl, h.0), PrecedesAll-map step k ps h.1)

pub IsRising-map : (step : StepValue) (ps : List PathValue) → IsRising ps → IsRising (map (after_step step) ps)
unfolding IsRising key_of
IsRising-map step [] h = tt
IsRising-map step (p ∷ ps) h = (PrecedesAll-map step (key p) ps h.0, IsRising-map step ps h.1)

pub offered_least : (allows : Allowance) (ask : Ask) (c : ℕ) → is_offered allows ask c ≡ true → least (class_of ask c) ≡ c
unfolding is_offered
offered_least allows ask c t =
    eqb-true _ _ (and_parts (least (class_of ask c) == c) (list_any (allows ask.module_number) (class_of ask c)) t).0

pub offered_allowed : (allows : Allowance) (ask : Ask) (c : ℕ) → is_offered allows ask c ≡ true →
    (d : ℕ) × Member d (class_of ask c) × (allows ask.module_number d ≡ true)
unfolding is_offered
offered_allowed allows ask c t =
    list_any_back (allows ask.module_number) (class_of ask c)
    (and_parts (least (class_of ask c) == c) (list_any (allows ask.module_number) (class_of ask c)) t).1

in_order : (allows : Allowance) (ask : Ask) (below : Outcome → List PathValue) (first n : ℕ) (x y : PathValue) → is_offered allows ask first ≡ true →
    Member x (map (after_step (step_of ask first)) (below (outcome_of ask first))) →
    Member y (branches allows ask below (range_with_len (first + 1) n)) → Precedes (key x) (key y)
unfolding Precedes key_of
in_order allows ask below first n x y t i j =
    let m = Member-map_back (after_step (step_of ask first)) x (below (outcome_of ask first)) i in
    let b = branches-back allows ask below (range_with_len (first + 1) n) y j in
    let low = (Member-codes_back (first + 1) n b.code b.among).0 in
    let e1 = offered_least allows ask first t in
    let e2 = offered_least allows ask b.code b.offered in
    let lt : least (class_of ask first) < least (class_of ask b.code) = omega arith in
    let base : Precedes (key (after_step (step_of ask first) m.0)) (key (after_step (step_of ask b.code) b.rest)) = inl lt in
    subst (λ z. Precedes (key z) (key y)) (sym m.2) (subst (λ z. Precedes (key (after_step (step_of ask first) m.0)) (key z)) (sym b.is) base)

pub IsRising-branches : (allows : Allowance) (ask : Ask) (below : Outcome → List PathValue) (first n : ℕ) →
    ((o : Outcome) → IsRising (below o)) → IsRising (branches allows ask below (range_with_len first n))
unfolding IsRising branches
IsRising-branches allows ask below first zero h = tt
IsRising-branches allows ask below first (suc n) h =
    let f : PathValue → PathValue = after_step (step_of ask first) in
    let here : List PathValue = map f (below (outcome_of ask first)) in
    let later : List PathValue = branches allows ask below (range_with_len (first + 1) n) in
    cond_both (is_offered allows ask first) here [] (λ l. IsRising (l ++ later))
    (λ t. IsRising-append here later (IsRising-map _ _ (h _)) (IsRising-branches allows ask below (first + 1) n h)
    (λ x y i j. in_order allows ask below first n x y t i j))
    (λ t. IsRising-branches allows ask below (first + 1) n h)

-- the assignment with one answer changed
pub with_answer : Assignment → ℕ → ℕ → Assignment
with_answer a m c = λ k. cond (eqb k m) c (a k)

pub with_answer-at : (a : Assignment) (m c : ℕ) → with_answer a m c m ≡ c
unfolding with_answer
with_answer-at a m c = cond-true (eqb m m) c (a m) (eq-eqb m m refl)

pub with_answer-other : (a : Assignment) (m c k : ℕ) → (k ≡ m → ⊥) → with_answer a m c k ≡ a k
unfolding with_answer
with_answer-other a m c k ne = cond-false (eqb k m) c (a k) (ne_eqb k m ne)

-- a path is that of any assignment with the same answers above low
pub path_of-same : (low n : ℕ) (runs : Runs) (a b : Assignment) → AsksRise low n runs → ((k : ℕ) → low < k → a k ≡ b k) → path_of runs a ≡ path_of runs b
unfolding path_of AsksRise asked_by final_state
path_of-same low n (ends s) a b h same = refl
path_of-same low n (asks ask next) a b h same =
    let m = ask.module_number in
    let e : a m ≡ b m = same m h.0 in
    let again : path_of (next (outcome_of ask (a m))) a ≡ path_of (next (outcome_of ask (a m))) b =
    path_of-same m n (next (outcome_of ask (a m))) a b (h.2 (outcome_of ask (a m))) (λ k l. same k (omega arith)) in
    ap (after_step (step_of ask (a m))) again
    ∙ ap (λ (c : ℕ). after_step (step_of ask c) (path_of (next (outcome_of ask c)) b)) e

-- the path after an answer
pub path_of-step : (ask : Ask) (next : Outcome → Runs) (a : Assignment) (c : ℕ) → outcome_of ask (a ask.module_number) ≡ outcome_of ask c →
    path_of (asks ask next) a ≡ after_step (step_of ask c) (path_of (next (outcome_of ask c)) a)
unfolding path_of asked_by final_state
path_of-step ask next a c e =
    ap (λ (o : Outcome). after_step (record { module_number = ask.module_number; class = class_at ask o }) (path_of (next o) a)) e

-- the path of an allowed assignment is in the listing
pub listing-has : (allows : Allowance) (low n : ℕ) (runs : Runs) (a : Assignment) → AsksRise low n runs → IsAllowed allows n a →
    Member (path_of runs a) (listing allows runs)
unfolding path_of AsksRise listing Member all_codes asked_by final_state
listing-has allows low n (ends s) a h ok = inl refl
listing-has allows low n (asks ask next) a h ok =
    let m = ask.module_number in
    let here = ok m (omega arith) h.1 in
    let l = least (class_of ask (a m)) in
    let k = least_of_class ask (a m) here.0 in
    let low_l : l < 31 = omega arith in
    branches-member allows ask (λ o. listing allows (next o)) (range_with_len 0 31) (path_of (asks ask next) a)
    (record {
      code = l;
      among = Member-codes 0 31 l (omega arith) (omega arith);
      offered = least_is_offered allows ask (a m) here.0 here.1;
      rest = path_of (next (outcome_of ask l)) a;
      inside = listing-has allows m n (next (outcome_of ask l)) a (h.2 (outcome_of ask l)) ok;
      is = path_of-step ask next a l k.0;
    })

-- each path of the listing is that of an allowed assignment
pub listing-only : (allows : Allowance) (low n : ℕ) (runs : Runs) (p : PathValue) → AsksRise low n runs → (b : Assignment) → IsAllowed allows n b →
    Member p (listing allows runs) → (a : Assignment) × IsAllowed allows n a × (p ≡ path_of runs a)
unfolding path_of AsksRise listing Member all_codes asked_by final_state
listing-only allows low n (ends s) p h b ok (inl e) = (b, ok, e)
listing-only allows low n (ends s) p h b ok (inr i) = absurd i
listing-only allows low n (asks ask next) p h b ok i =
    let m = ask.module_number in
    let found = branches-back allows ask (λ o. listing allows (next o)) (range_with_len 0 31) p i in
    let c = found.code in
    let again = listing-only allows m n (next (outcome_of ask c)) found.rest (h.2 (outcome_of ask c)) b ok found.inside in
    let chosen = offered_allowed allows ask c found.offered in
    let d = chosen.0 in
    let in_c = of_class ask c d chosen.1 in
    let a = with_answer again.0 m d in
    let at : a m ≡ d = with_answer-at again.0 m d in
    let e : outcome_of ask (a m) ≡ outcome_of ask c = ap (outcome_of ask) at ∙ sym in_c.1 in
    let rest : path_of (next (outcome_of ask c)) again.0 ≡ path_of (next (outcome_of ask c)) a =
    path_of-same m n (next (outcome_of ask c)) again.0 a (h.2 (outcome_of ask c)) (λ k l. sym (with_answer-other again.0 m d k (omega arith))) in (
      a,
      (λ k from to. elim (cases_eq k m) [
        | inl e' ↦ subst (λ x. (x < 31) × (allows k x ≡ true)) (sym (ap a e' ∙ at)) (in_c.0, ap (λ x. allows x d) e' ∙ chosen.2)
        | inr ne ↦ subst (λ x. (x < 31) × (allows k x ≡ true)) (sym (with_answer-other again.0 m d k ne)) (again.1 k from to)
      ]),
      found.is ∙ ap (after_step (step_of ask c)) (again.2 ∙ rest) ∙ sym (path_of-step ask next a c e),
    )

-- an allowed assignment, if the knowledge allows each module some code
allowed_code : (allows : Allowance) (n : ℕ) → IsLawful allows n → (m : ℕ) → (c : ℕ) × (1 ≤ m → m ≤ n → (c < 31) × (allows m c ≡ true))
allowed_code allows n lawful m =
    elim (cases_lt m 1) [
      | inl l ↦ (0, λ from to. absurd (omega arith))
      | inr from ↦ elim (cases_lt n m) [
        | inl l ↦ (0, λ from to. absurd (omega arith))
        | inr to ↦ let k = lawful m from to in (k.0, λ f t. (k.1, k.2))
      ]
    ]

pub some_assignment : (allows : Allowance) (n : ℕ) → IsLawful allows n → (a : Assignment) × IsAllowed allows n a
some_assignment allows n lawful = (λ m. (allowed_code allows n lawful m).0, λ m from to. (allowed_code allows n lawful m).1 from to)

pub IsRising-listing : (allows : Allowance) (runs : Runs) → IsRising (listing allows runs)
unfolding listing all_codes IsRising PrecedesAll
IsRising-listing allows (ends s) = (tt, tt)
IsRising-listing allows (asks ask next) =
    IsRising-branches allows ask (λ o. listing allows (next o)) 0 31 (λ o. IsRising-listing allows (next o))

-- the computed listing is one
pub listing-is : (allows : Allowance) (n : ℕ) (runs : Runs) → AsksRise 0 n runs → (b : Assignment) → IsAllowed allows n b →
    IsListing allows n (path_of runs) (listing allows runs)
listing-is allows n runs h b ok = record {
  rising = IsRising-listing allows runs;
  members = λ p. (
    λ i. listing-only allows 0 n runs p h b ok i,
    λ w. subst (λ x. Member x (listing allows runs)) (sym w.2) (listing-has allows 0 n runs w.0 h w.1),
  );
}

-- the order of keys
pub Precedes-irreflexive : (k : List ℕ) → Precedes k k → ⊥
unfolding Precedes
Precedes-irreflexive [] h = h
Precedes-irreflexive (x ∷ xs) (inl l) = omega arith
Precedes-irreflexive (x ∷ xs) (inr h) = Precedes-irreflexive xs h.1

pub Precedes-trans : (k l m : List ℕ) → Precedes k l → Precedes l m → Precedes k m
unfolding Precedes
Precedes-trans [] [] m h i = absurd h
Precedes-trans [] (y ∷ ys) [] h i = absurd i
Precedes-trans [] (y ∷ ys) (z ∷ zs) h i = tt
Precedes-trans (x ∷ xs) [] m h i = absurd h
Precedes-trans (x ∷ xs) (y ∷ ys) [] h i = absurd i
Precedes-trans (x ∷ xs) (y ∷ ys) (z ∷ zs) (inl a) (inl b) = inl (omega arith)
Precedes-trans (x ∷ xs) (y ∷ ys) (z ∷ zs) (inl a) (inr b) = inl (omega (arith, b.0))
Precedes-trans (x ∷ xs) (y ∷ ys) (z ∷ zs) (inr a) (inl b) = inl (omega (arith, a.0))
Precedes-trans (x ∷ xs) (y ∷ ys) (z ∷ zs) (inr a) (inr b) = inr (a.0 ∙ b.0, Precedes-trans xs ys zs a.1 b.1)

-- rising lists with the same members are equal
pub rising-same : (xs ys : List PathValue) → IsRising xs → IsRising ys →
    ((p : PathValue) → Member p xs → Member p ys) → ((p : PathValue) → Member p ys → Member p xs) → xs ≡ ys
unfolding Member IsRising
rising-same [] [] rx ry to back = refl
rising-same [] (y ∷ ys) rx ry to back = absurd (back y (inl refl))
rising-same (x ∷ xs) [] rx ry to back = absurd (to x (inl refl))
rising-same (x ∷ xs) (y ∷ ys) rx ry to back =
    let heads = same_heads x y xs ys rx ry (to x (inl refl)) (back y (inl refl)) in
    ap (λ (z : PathValue). z ∷ xs) heads
    ∙ ap (λ (zs : List PathValue). y ∷ zs)
    (rising-same xs ys rx.1 ry.1
    (λ p i. others x y xs ys p rx heads i (to p (inr i)))
    (λ p i. others y x ys xs p ry (sym heads) i (back p (inr i))))
  where
    same_heads : (x y : PathValue) (xs ys : List PathValue) → IsRising (x ∷ xs) → IsRising (y ∷ ys) → Member x (y ∷ ys) → Member y (x ∷ xs) → x ≡ y
    same_heads x y xs ys rx ry (inl e) j = e
    same_heads x y xs ys rx ry (inr i) (inl e) = sym e
    same_heads x y xs ys rx ry (inr i) (inr j) =
        absurd (Precedes-irreflexive (key x) (Precedes-trans (key x) (key y) (key x) (PrecedesAll-at (key x) xs y rx.0 j)
        (PrecedesAll-at (key y) ys x ry.0 i)))

    others : (x y : PathValue) (xs ys : List PathValue) (p : PathValue) → IsRising (x ∷ xs) → x ≡ y → Member p xs → Member p (y ∷ ys) → Member p ys
    others x y xs ys p rx e i (inl f) =
        absurd (Precedes-irreflexive (key x) (subst (λ z. Precedes (key x) (key z)) (f ∙ sym e) (PrecedesAll-at (key x) xs p rx.0 i)))
    others x y xs ys p rx e i (inr j) = j

-- two listings of one run and knowledge are equal
pub one_listing : (allows : Allowance) (n : ℕ) (path_by : Assignment → PathValue) (xs ys : List PathValue) →
    IsListing allows n path_by xs → IsListing allows n path_by ys → xs ≡ ys
one_listing allows n path_by xs ys x y =
    rising-same xs ys x.rising y.rising
    (λ p i. (y.members p).1 ((x.members p).0 i))
    (λ p i. (x.members p).1 ((y.members p).0 i))
