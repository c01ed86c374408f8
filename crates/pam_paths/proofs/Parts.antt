-- The parts of a listing after a key and before it.
use Rattle.std.proofs.Common.{◌≡◌, ℕ, ◌+◌, ◌-◌, ◌<◌, ◌≤◌, ◌==◌, Bool, true, false, List, [], ◌∷◌, ◌++◌, map, cond, zero, suc, refl, sym, ◌∙◌, ap, subst}
use Rattle.std.proofs.Common.{inl, inr, arith, append-nil, reverse}
use Rattle.std.specs.Prelude.{filter}
use Rattle.std.specs.List.{range_with_len}
use Rattle.std.proofs.lemmas.List.{reverse-append}
use Rattle.std.proofs.lemmas.List.Elements.{filter-append}
use Rattle.std.proofs.lemmas.Bool.{cond_both, cond-true, cond-false, cases_Bool, eqb-true}
use Rattle.pam_codes.specs.Code.{all_codes}
use Rattle.pam_dispatch.specs.declared.step.Outcome.{Outcome}
use Rattle.pam_dispatch.specs.Runs.{Assignment, Ask, Runs, asks, ends, outcome_of}
use Rattle.pam_text.specs.Members.{Member}
use Rattle.pam_paths.specs.Classes.{class_of, least}
use Rattle.pam_paths.specs.Paths.{IsRising, PathValue, precedes, key, key_of, step_of}
use Rattle.pam_paths.specs.declared.direction.Direction.TheVariants.{Forward, Backward}
use Rattle.pam_paths.specs.Computed.{after_step, branches, is_offered, listing}
use Rattle.pam_paths.specs.inner.Frames.{part}
use Rattle.pam_paths.specs.Listing.{Allowance, IsListing, IsListingAfter}
use Rattle.pam_paths.specs.Cursor.{Verdict, accepted, not_least, too_long, too_short}
use Rattle.pam_paths.specs.inner.Retrace.{further, verdict_of}
use Rattle.pam_paths.specs.Pages.{after}
use Rattle.pam_paths.proofs.Keys.{before-less, before-more, before-same, Precedes-from, Precedes-to}
use Rattle.pam_paths.proofs.Listings.{PrecedesAll-at, PrecedesAll-from, offered_least, rising-same}
use Rattle.pam_paths.proofs.Alike.{Member-filter, Member-filter_back, of_class}
use Rattle.pam_paths.proofs.Branches.{branches_split, map-reverse}

-- a test that each path passes, or none
filter_whole : (test : PathValue → Bool) (f : PathValue → PathValue) (ps : List PathValue) → ((p : PathValue) → test (f p) ≡ true) →
    filter test (map f ps) ≡ map f ps
filter_whole test f [] h = refl
filter_whole test f (p ∷ ps) h =
    ap (λ (b : Bool). cond b (f p ∷ filter test (map f ps)) (filter test (map f ps))) (h p) ∙ ap (λ (x : List PathValue). f p ∷ x) (filter_whole test f ps h)

filter_none : (test : PathValue → Bool) (f : PathValue → PathValue) (ps : List PathValue) → ((p : PathValue) → test (f p) ≡ false) →
    filter test (map f ps) ≡ []
filter_none test f [] h = refl
filter_none test f (p ∷ ps) h =
    ap (λ (b : Bool). cond b (f p ∷ filter test (map f ps)) (filter test (map f ps))) (h p) ∙ filter_none test f ps h

filter_inner : (test inner : PathValue → Bool) (f : PathValue → PathValue) (ps : List PathValue) → ((p : PathValue) → test (f p) ≡ inner p) →
    filter test (map f ps) ≡ map f (filter inner ps)
filter_inner test inner f [] h = refl
filter_inner test inner f (p ∷ ps) h =
    ap (λ (b : Bool). cond b (f p ∷ filter test (map f ps)) (filter test (map f ps))) (h p)
    ∙ ap (λ (x : List PathValue). cond (inner p) (f p ∷ x) x) (filter_inner test inner f ps h)
    ∙ kept f (inner p) p (filter inner ps)
  where
    kept : (f : PathValue → PathValue) (b : Bool) (p : PathValue) (ps : List PathValue) → cond b (f p ∷ map f ps) (map f ps) ≡ map f (cond b (p ∷ ps) ps)
    kept f true p ps = refl
    kept f false p ps = refl

module _ (allows : Allowance) (ask : Ask) (below : Outcome → List PathValue) (test : PathValue → Bool) where
  branch_at : ℕ → List PathValue
  branch_at c = cond (is_offered allows ask c) (map (after_step (step_of ask c)) (below (outcome_of ask c))) []

  branches_whole : (first n : ℕ) → ((c : ℕ) (p : PathValue) → first ≤ c → c < first + n → is_offered allows ask c ≡ true →
      test (after_step (step_of ask c) p) ≡ true) →
      filter test (branches allows ask below (range_with_len first n)) ≡ branches allows ask below (range_with_len first n)
  unfolding branches branch_at
  branches_whole first zero h = refl
  branches_whole first (suc n) h =
      filter-append test (branch_at first) (branches allows ask below (range_with_len (first + 1) n))
      ∙ ap (λ (x : List PathValue). x ++ filter test (branches allows ask below (range_with_len (first + 1) n)))
      (cond_both (is_offered allows ask first) (map (after_step (step_of ask first)) (below (outcome_of ask first))) [] (λ x. filter test x ≡ x)
      (λ t. filter_whole test (after_step (step_of ask first)) (below (outcome_of ask first)) (λ p. h first p (omega arith) (omega arith) t))
      (λ t. refl))
      ∙ ap (λ (x : List PathValue). branch_at first ++ x) (branches_whole (first + 1) n (λ c p from to t. h c p (omega (arith, from)) (omega (arith, to)) t))

  branches_gone : (first n : ℕ) → ((c : ℕ) (p : PathValue) → first ≤ c → c < first + n → is_offered allows ask c ≡ true →
      test (after_step (step_of ask c) p) ≡ false) →
      filter test (branches allows ask below (range_with_len first n)) ≡ []
  unfolding branches branch_at
  branches_gone first zero h = refl
  branches_gone first (suc n) h =
      filter-append test (branch_at first) (branches allows ask below (range_with_len (first + 1) n))
      ∙ ap (λ (x : List PathValue). x ++ filter test (branches allows ask below (range_with_len (first + 1) n)))
      (cond_both (is_offered allows ask first) (map (after_step (step_of ask first)) (below (outcome_of ask first))) [] (λ x. filter test x ≡ [])
      (λ t. filter_none test (after_step (step_of ask first)) (below (outcome_of ask first)) (λ p. h first p (omega arith) (omega arith) t))
      (λ t. refl))
      ∙ branches_gone (first + 1) n (λ c p from to t. h c p (omega (arith, from)) (omega (arith, to)) t)

  -- at one code
  branches_inner : (c : ℕ) (inner : PathValue → Bool) → ((p : PathValue) → test (after_step (step_of ask c) p) ≡ inner p) →
      filter test (branches allows ask below (range_with_len c 1))
      ≡ cond (is_offered allows ask c) (map (after_step (step_of ask c)) (filter inner (below (outcome_of ask c)))) []
  unfolding branches
  branches_inner c inner h =
      ap (filter test) (append-nil (cond (is_offered allows ask c) (map (after_step (step_of ask c)) (below (outcome_of ask c))) []))
      ∙ cond_both (is_offered allows ask c) (map (after_step (step_of ask c)) (below (outcome_of ask c))) []
      (λ x. filter test x ≡ cond (is_offered allows ask c) (map (after_step (step_of ask c)) (filter inner (below (outcome_of ask c)))) [])
      (λ t. filter_inner test inner (after_step (step_of ask c)) (below (outcome_of ask c)) h ∙ sym (cond-true (is_offered allows ask c) _ [] t))
      (λ t. sym (cond-false (is_offered allows ask c) (map (after_step (step_of ask c)) (filter inner (below (outcome_of ask c)))) [] t))

  -- all codes, with one of them between those that pass and those that do not
  branches_cut : (c : ℕ) → c < 31 →
      filter test (branches allows ask below (range_with_len 0 31))
      ≡ filter test (branches allows ask below (range_with_len 0 c)) ++
      (filter test (branches allows ask below (range_with_len c 1)) ++ filter test (branches allows ask below (range_with_len (c + 1) (31 - (c + 1)))))
  branches_cut c low =
      ap (filter test) (branches_split allows ask below c 0 31 (31 - c) c (omega (arith, low)) (omega arith)
      ∙ ap (λ (x : List PathValue). branches allows ask below (range_with_len 0 c) ++ x)
      (branches_split allows ask below 1 c (31 - c) (31 - (c + 1)) (c + 1) (omega (arith, low)) refl))
      ∙ filter-append test (branches allows ask below (range_with_len 0 c))
      (branches allows ask below (range_with_len c 1) ++ branches allows ask below (range_with_len (c + 1) (31 - (c + 1))))
      ∙ ap (λ (x : List PathValue). filter test (branches allows ask below (range_with_len 0 c)) ++ x)
      (filter-append test (branches allows ask below (range_with_len c 1)) (branches allows ask below (range_with_len (c + 1) (31 - (c + 1)))))

refused : (s : Verdict) (j : ℕ) → s ≡ not_least j → s ≡ accepted → ⊥
refused accepted j e f = let x : ⊥ = cc in x
refused (not_least i) j e f = let x : ⊥ = cc in x
refused too_short j e f = let x : ⊥ = cc in x
refused too_long j e f = let x : ⊥ = cc in x

accepted-back : (s : Verdict) → further 1 s ≡ accepted → s ≡ accepted
accepted-back accepted e = refl
accepted-back (not_least j) e = absurd (let x : ⊥ = cc in x)
accepted-back too_short e = absurd (let x : ⊥ = cc in x)
accepted-back too_long e = absurd (let x : ⊥ = cc in x)

-- an accepted key begins with the least code of a class, and continues as an accepted key
accepted-on : (ask : Ask) (next : Outcome → Runs) (c : ℕ) (k : List ℕ) → verdict_of (asks ask next) (c ∷ k) ≡ accepted →
    (least (class_of ask c) ≡ c) × (verdict_of (next (outcome_of ask c)) k ≡ accepted)
unfolding verdict_of
accepted-on ask next c k e =
    elim (cases_Bool (least (class_of ask c) == c)) [
      | inl t ↦ (
        eqb-true _ _ t,
        accepted-back (verdict_of (next (outcome_of ask c)) k)
            (sym (cond-true (least (class_of ask c) == c) (further 1 (verdict_of (next (outcome_of ask c)) k)) (not_least 1) t) ∙ e),
      )
      | inr f ↦ absurd (refused _ 1 (cond-false (least (class_of ask c) == c) (further 1 (verdict_of (next (outcome_of ask c)) k)) (not_least 1) f) e)
    ]

pub head-low : (ask : Ask) (c : ℕ) (class : List ℕ) → class ≡ class_of ask c → least class ≡ c → c < 31
unfolding Member
head-low ask c [] e h = omega (arith, h)
head-low ask c (d ∷ ds) e h =
    let w = of_class ask c d (subst (λ (x : List ℕ). Member d x) e (inl refl)) in
    omega (arith, w.0, h)

-- the computed part of an accepted key is a part of the listing
pub part-after : (allows : Allowance) (runs : Runs) (k : List ℕ) → verdict_of runs k ≡ accepted →
    part Forward allows runs k ≡ filter (λ p. precedes k (key p)) (listing allows runs)
unfolding part listing verdict_of precedes key_of all_codes
part-after allows (ends s) [] e = refl
part-after allows (ends s) (c ∷ k) e = absurd (let x : ⊥ = cc in x)
part-after allows (asks ask next) [] e = absurd (let x : ⊥ = cc in x)
part-after allows (asks ask next) (c ∷ k) e =
    let on = accepted-on ask next c k e in
    let low : c < 31 = head-low ask c (class_of ask c) refl on.0 in
    let below : Outcome → List PathValue = λ o. listing allows (next o) in
    let test : PathValue → Bool = λ p. precedes (c ∷ k) (key p) in
    let inner : PathValue → Bool = λ p. precedes k (key p) in
    let f : PathValue → PathValue = after_step (step_of ask c) in
    let more : List PathValue = branches allows ask below (range_with_len (c + 1) (31 - (c + 1))) in
    let first : filter test (branches allows ask below (range_with_len 0 c)) ≡ [] =
    branches_gone allows ask below test 0 c
    (λ d p from to t. before-more c (least (class_of ask d)) k (key p) (omega (arith, to, offered_least allows ask d t))) in
    let middle : filter test (branches allows ask below (range_with_len c 1))
    ≡ cond (is_offered allows ask c) (map f (part Forward allows (next (outcome_of ask c)) k)) [] =
    branches_inner allows ask below test c inner (λ p. before-same c (least (class_of ask c)) k (key p) (sym on.0))
    ∙ ap (λ (x : List PathValue). cond (is_offered allows ask c) (map f x) []) (sym (part-after allows (next (outcome_of ask c)) k on.1)) in
    let last : filter test more ≡ more =
    branches_whole allows ask below test (c + 1) (31 - (c + 1))
    (λ d p from to t. before-less c (least (class_of ask d)) k (key p) (omega (arith, from, offered_least allows ask d t))) in
    sym (branches_cut allows ask below test c low
    ∙ ap (λ (x : List PathValue). x ++ (filter test (branches allows ask below (range_with_len c 1)) ++ filter test more)) first
    ∙ ap (λ (x : List PathValue). x ++ filter test more) middle
    ∙ ap (λ (x : List PathValue). cond (is_offered allows ask c) (map f (part Forward allows (next (outcome_of ask c)) k)) [] ++ x) last)

reverse-cond : (b : Bool) (xs : List PathValue) → reverse (cond b xs []) ≡ cond b (reverse xs) []
reverse-cond true xs = refl
reverse-cond false xs = refl

pub part-before : (allows : Allowance) (runs : Runs) (k : List ℕ) → verdict_of runs k ≡ accepted →
    part Backward allows runs k ≡ reverse (filter (λ p. precedes (key p) k) (listing allows runs))
unfolding part listing verdict_of precedes key_of all_codes
part-before allows (ends s) [] e = refl
part-before allows (ends s) (c ∷ k) e = absurd (let x : ⊥ = cc in x)
part-before allows (asks ask next) [] e = absurd (let x : ⊥ = cc in x)
part-before allows (asks ask next) (c ∷ k) e =
    let on = accepted-on ask next c k e in
    let low : c < 31 = head-low ask c (class_of ask c) refl on.0 in
    let below : Outcome → List PathValue = λ o. listing allows (next o) in
    let test : PathValue → Bool = λ p. precedes (key p) (c ∷ k) in
    let inner : PathValue → Bool = λ p. precedes (key p) k in
    let f : PathValue → PathValue = after_step (step_of ask c) in
    let offered : Bool = is_offered allows ask c in
    let front : List PathValue = branches allows ask below (range_with_len 0 c) in
    let kept : List PathValue = filter inner (below (outcome_of ask c)) in
    let more : List PathValue = branches allows ask below (range_with_len (c + 1) (31 - (c + 1))) in
    let first : filter test front ≡ front =
    branches_whole allows ask below test 0 c
    (λ d p from to t. before-less (least (class_of ask d)) c (key p) k (omega (arith, to, offered_least allows ask d t))) in
    let middle : filter test (branches allows ask below (range_with_len c 1)) ≡ cond offered (map f kept) [] =
    branches_inner allows ask below test c inner (λ p. before-same (least (class_of ask c)) c (key p) k on.0) in
    let last : filter test more ≡ [] =
    branches_gone allows ask below test (c + 1) (31 - (c + 1))
    (λ d p from to t. before-more (least (class_of ask d)) c (key p) k (omega (arith, from, offered_least allows ask d t))) in
    let whole : filter test (branches allows ask below (range_with_len 0 31)) ≡ front ++ cond offered (map f kept) [] =
    branches_cut allows ask below test c low
    ∙ ap (λ (x : List PathValue). x ++ (filter test (branches allows ask below (range_with_len c 1)) ++ filter test more)) first
    ∙ ap (λ (x : List PathValue). front ++ (x ++ filter test more)) middle
    ∙ ap (λ (x : List PathValue). front ++ (cond offered (map f kept) [] ++ x)) last
    ∙ ap (λ (x : List PathValue). front ++ x) (append-nil _) in
    let turned : map f (part Backward allows (next (outcome_of ask c)) k) ≡ reverse (map f kept) =
    ap (map f) (part-before allows (next (outcome_of ask c)) k on.1) ∙ map-reverse f kept in
    sym (ap reverse whole
    ∙ reverse-append front (cond offered (map f kept) [])
    ∙ ap (λ (x : List PathValue). x ++ reverse front)
    (reverse-cond offered (map f kept) ∙ ap (λ (x : List PathValue). cond offered x []) (sym turned)))

-- MEMBERS OF A PART

pub kept-rising : (test : PathValue → Bool) (ps : List PathValue) → IsRising ps → IsRising (filter test ps)
unfolding IsRising
kept-rising test [] h = tt
kept-rising test (p ∷ ps) h =
    cond_both (test p) (p ∷ filter test ps) (filter test ps) (λ l. IsRising l)
    (λ k. (PrecedesAll-from (key p) (filter test ps) (λ q m. PrecedesAll-at (key p) ps q h.0 (Member-filter_back test ps q m).0), kept-rising test ps h.1))
    (λ k. kept-rising test ps h.1)

pub after-is : (allows : Allowance) (n : ℕ) (path_by : Assignment → PathValue) (k : List ℕ) (all : List PathValue) → IsListing allows n path_by all →
    IsListingAfter allows n path_by k (after k all)
after-is allows n path_by k all is = record {
  rising = kept-rising (λ p. precedes k (key p)) all is.rising;
  members = λ p. (
    (λ m. let w = Member-filter_back (λ q. precedes k (key q)) all p m in ((is.members p).0 w.0, Precedes-from k (key p) w.1)),
    (λ w. Member-filter (λ q. precedes k (key q)) all p ((is.members p).1 w.0) (Precedes-to k (key p) w.1)),
  );
}

pub one_part_after : (allows : Allowance) (n : ℕ) (path_by : Assignment → PathValue) (k : List ℕ) (xs ys : List PathValue) →
    IsListingAfter allows n path_by k xs → IsListingAfter allows n path_by k ys → xs ≡ ys
one_part_after allows n path_by k xs ys x y =
    rising-same xs ys x.rising y.rising (λ p i. (y.members p).1 ((x.members p).0 i)) (λ p i. (x.members p).1 ((y.members p).0 i))
