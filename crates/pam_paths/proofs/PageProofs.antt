-- Pages of a listing, forward and backward.
use Rattle.std.proofs.Common.{◌≡◌, ℕ, ◌<◌, ◌≤◌, Bool, true, false, List, [], ◌∷◌, ◌++◌, take-append-drop, cond, suc, refl, sym, ◌∙◌, ap, subst, inl, inr}
use Rattle.std.proofs.Common.{arith, append-nil, append_assoc, reverse, length, take, drop, All, nat_le, Some, None}
use Rattle.std.specs.Prelude.{filter}
use Rattle.std.proofs.lemmas.List.{length-take-le, reverse-append, reverse-reverse}
use Rattle.std.proofs.lemmas.List.Elements.{filter-append}
use Rattle.std.proofs.lemmas.Bool.{cond-true, cond-false, cases_Bool, leb-false}
use Rattle.pam_dispatch.specs.Runs.{Assignment}
use Rattle.pam_text.specs.Members.{Member}
use Rattle.pam_paths.specs.Paths.{FollowsAll, Precedes, PrecedesAll, IsFalling, IsRising, PathValue, precedes, key}
use Rattle.pam_paths.specs.Listing.{Allowance, IsListing, IsListingBefore}
use Rattle.pam_paths.specs.Pages.{ArePrefix, Page, SayEnd, before, after, joined, last_key, pages}
use Rattle.pam_paths.specs.Laws.{EndsMeet, PagesJoin, PagesJoinBackwards, PartBefore, PartAfter}
use Rattle.pam_paths.proofs.Keys.{Precedes-from, Precedes-to}
use Rattle.pam_paths.proofs.Listings.{Precedes-irreflexive, Precedes-trans, PrecedesAll-at, IsRising-append, Member-cases, Member-right, rising-same}
use Rattle.pam_paths.proofs.Alike.{Member-filter, Member-filter_back}
use Rattle.pam_paths.proofs.Parts.{after-is, kept-rising, one_part_after}

-- a test that each member passes, or none
filter_all : (test : PathValue → Bool) (ps : List PathValue) → ((p : PathValue) → Member p ps → test p ≡ true) → filter test ps ≡ ps
unfolding Member
filter_all test [] h = refl
filter_all test (p ∷ ps) h =
    ap (λ (b : Bool). cond b (p ∷ filter test ps) (filter test ps)) (h p (inl refl))
    ∙ ap (λ (x : List PathValue). p ∷ x) (filter_all test ps (λ q m. h q (inr m)))

filter_no : (test : PathValue → Bool) (ps : List PathValue) → ((p : PathValue) → Member p ps → test p ≡ false) → filter test ps ≡ []
unfolding Member
filter_no test [] h = refl
filter_no test (p ∷ ps) h =
    ap (λ (b : Bool). cond b (p ∷ filter test ps) (filter test ps)) (h p (inl refl)) ∙ filter_no test ps (λ q m. h q (inr m))

not_before : (k l : List ℕ) → (Precedes k l → ⊥) → precedes k l ≡ false
not_before k l h = elim (cases_Bool (precedes k l)) [ inl t ↦ absurd (h (Precedes-from k l t)) | inr f ↦ f ]

-- the members around one of a rising list
rising_front : (xs : List PathValue) (p : PathValue) (ys : List PathValue) → IsRising (xs ++ p ∷ ys) → (q : PathValue) → Member q xs →
    Precedes (key q) (key p)
unfolding IsRising Member
rising_front [] p ys h q m = absurd m
rising_front (x ∷ xs) p ys h q (inl e) =
    subst (λ (y : PathValue). Precedes (key y) (key p)) (sym e) (PrecedesAll-at (key x) (xs ++ p ∷ ys) p h.0 (Member-right p xs (p ∷ ys) (inl refl)))
rising_front (x ∷ xs) p ys h q (inr m) = rising_front xs p ys h.1 q m

rising_back : (xs : List PathValue) (p : PathValue) (ys : List PathValue) → IsRising (xs ++ p ∷ ys) → (q : PathValue) → Member q ys → Precedes (key p) (key q)
unfolding IsRising
rising_back [] p ys h q m = PrecedesAll-at (key p) ys q h.0 m
rising_back (x ∷ xs) p ys h q m = rising_back xs p ys h.1 q m

-- the paths after one of them, and those before it
pub split_after : (all xs : List PathValue) (p : PathValue) (ys : List PathValue) → all ≡ xs ++ p ∷ ys → IsRising all → after (key p) all ≡ ys
split_after all xs p ys e rise =
    let rising : IsRising (xs ++ p ∷ ys) = subst IsRising e rise in
    let test : PathValue → Bool = λ q. precedes (key p) (key q) in
    ap (filter test) e
    ∙ filter-append test xs (p ∷ ys)
    ∙ ap (λ (x : List PathValue). x ++ filter test (p ∷ ys))
    (filter_no test xs (λ q m. not_before (key p) (key q)
    (λ b. Precedes-irreflexive (key p) (Precedes-trans (key p) (key q) (key p) b (rising_front xs p ys rising q m)))))
    ∙ ap (λ (b : Bool). cond b (p ∷ filter test ys) (filter test ys)) (not_before (key p) (key p) (Precedes-irreflexive (key p)))
    ∙ filter_all test ys (λ q m. Precedes-to (key p) (key q) (rising_back xs p ys rising q m))

pub split_front : (all xs : List PathValue) (p : PathValue) (ys : List PathValue) → all ≡ xs ++ p ∷ ys → IsRising all →
    filter (λ q. precedes (key q) (key p)) all ≡ xs
split_front all xs p ys e rise =
    let rising : IsRising (xs ++ p ∷ ys) = subst IsRising e rise in
    let test : PathValue → Bool = λ q. precedes (key q) (key p) in
    ap (filter test) e
    ∙ filter-append test xs (p ∷ ys)
    ∙ ap (λ (x : List PathValue). filter test xs ++ x)
    (ap (λ (b : Bool). cond b (p ∷ filter test ys) (filter test ys)) (not_before (key p) (key p) (Precedes-irreflexive (key p)))
    ∙ filter_no test ys (λ q m. not_before (key q) (key p)
    (λ b. Precedes-irreflexive (key p) (Precedes-trans (key p) (key q) (key p) (rising_back xs p ys rising q m) b))))
    ∙ append-nil (filter test xs)
    ∙ filter_all test xs (λ q m. Precedes-to (key q) (key p) (rising_front xs p ys rising q m))

-- a member has members before and after
pub record Around (p : PathValue) (all : List PathValue) : Type 0 where
  pub front : List PathValue
  pub rest : List PathValue
  pub is : all ≡ front ++ p ∷ rest

around : (p : PathValue) (all : List PathValue) → Member p all → Around p all
unfolding Member
around p [] h = absurd h
around p (q ∷ all) (inl e) = record { front = []; rest = all; is = ap (λ (x : PathValue). x ∷ all) (sym e) }
around p (q ∷ all) (inr h) = let k = around p all h in record { front = q ∷ k.front; rest = k.rest; is = ap (λ (x : List PathValue). q ∷ x) k.is }

-- PAGES

-- the last of some paths
record Last (all : List PathValue) : Type 0 where
  front : List PathValue
  path : PathValue
  is : all ≡ front ++ path ∷ []
  at : last_key all ≡ key path

last_of : (p : PathValue) (ps : List PathValue) → Last (p ∷ ps)
unfolding last_key
last_of p [] = record { front = []; path = p; is = refl; at = refl }
last_of p (q ∷ ps) = let k = last_of q ps in record { front = p ∷ k.front; path = k.path; is = ap (λ (x : List PathValue). p ∷ x) k.is; at = k.at }

last_of_some : (ps : List PathValue) → 1 ≤ length ps → Last ps
last_of_some [] h = absurd (omega (arith, h))
last_of_some (p ∷ ps) h = last_of p ps

-- a cursor leads to the paths after its own
abbrev pub GoesOn : (List ℕ → List PathValue) → List PathValue → Type 0
GoesOn go all = (front rest : List PathValue) (p : PathValue) → all ≡ front ++ p ∷ rest → go (key p) ≡ rest

end_later : (paths : List PathValue) (k : List ℕ) (ps : List Page) → SayEnd (record { paths = paths; more = Some k } ∷ ps) → SayEnd ps
unfolding SayEnd
end_later paths k [] h = absurd (let x : ⊥ = cc in x)
end_later paths k (q ∷ qs) h = h

pub pages_front : (go : List ℕ → List PathValue) (all front left : List PathValue) (sizes : List ℕ) → GoesOn go all → all ≡ front ++ left →
    All (λ size. 1 ≤ size) sizes → ArePrefix (pages go left sizes) left
unfolding pages joined SayEnd
pages_front go all front left [] on e ok = (left, refl, λ h. absurd h)
pages_front go all front left (size ∷ sizes) on e ok =
    let here = ok 0 size (omega arith) in
    let some : List PathValue = take size left in
    let whole : List Page = record { paths = left; more = None } ∷ [] in
    let part : List Page = record { paths = some; more = Some (last_key some) } ∷ pages go (go (last_key some)) sizes in
    elim (cases_Bool (nat_le (length left) size)) [
      | inl t ↦ subst (λ (x : List Page). ArePrefix x left) (sym (cond-true (nat_le (length left) size) whole part t))
          ([], append-nil _ ∙ append-nil left, λ h. refl)
      | inr f ↦
          let many : size < length left = leb-false (length left) size f in
          let last = last_of_some some (omega (arith, here, many, length-take-le size left (omega (arith, many)))) in
          let rest : List PathValue = drop size left in
          let both : left ≡ some ++ rest = sym (take-append-drop size left) in
          let at : all ≡ (front ++ last.front) ++ last.path ∷ rest =
          e ∙ ap (λ (x : List PathValue). front ++ x) (both ∙ ap (λ (x : List PathValue). x ++ rest) last.is ∙ append_assoc last.front (last.path ∷ []) rest)
          ∙ sym (append_assoc front last.front (last.path ∷ rest)) in
          let leads : go (last_key some) ≡ rest = ap go last.at ∙ on (front ++ last.front) rest last.path at in
          let again = pages_front go all (front ++ some) rest sizes on
          (e ∙ ap (λ (x : List PathValue). front ++ x) both ∙ sym (append_assoc front some rest)) (λ k d l. ok (suc k) d (omega (arith, l))) in
          subst (λ (x : List Page). ArePrefix x left) (sym (cond-false (nat_le (length left) size) whole part f))
          (subst (λ (x : List PathValue). ArePrefix (record { paths = some; more = Some (last_key some) } ∷ pages go x sizes) left) (sym leads) (
            again.0,
            append_assoc some (joined (pages go rest sizes)) again.0 ∙ ap (λ (x : List PathValue). some ++ x) again.1 ∙ sym both,
            λ h. again.2 (end_later some (last_key some) (pages go rest sizes) h),
          ))
    ]

-- THE PART BEFORE A KEY, LAST FIRST

Member-reverse : (p : PathValue) (ps : List PathValue) → Member p (reverse ps) → Member p ps
unfolding Member
Member-reverse p [] h = h
Member-reverse p (q ∷ ps) h =
    elim (Member-cases p (reverse ps) (q ∷ []) (subst (λ (x : List PathValue). Member p x) (reverse-append (q ∷ []) ps) h)) [
      | inl k ↦ inr (Member-reverse p ps k)
      | inr k ↦ elim k [ inl e ↦ inl e | inr n ↦ absurd n ]
    ]

to_reverse : (p : PathValue) (ps : List PathValue) → Member p ps → Member p (reverse ps)
to_reverse p ps h = Member-reverse p (reverse ps) (subst (λ (x : List PathValue). Member p x) (sym (reverse-reverse ps)) h)

FollowsAll-from : (k : List ℕ) (ps : List PathValue) → ((p : PathValue) → Member p ps → Precedes (key p) k) → FollowsAll k ps
unfolding Member FollowsAll
FollowsAll-from k [] h = tt
FollowsAll-from k (p ∷ ps) h = (h p (inl refl), FollowsAll-from k ps (λ q m. h q (inr m)))

FollowsAll-at : (k : List ℕ) (ps : List PathValue) (p : PathValue) → FollowsAll k ps → Member p ps → Precedes (key p) k
unfolding Member FollowsAll
FollowsAll-at k [] p b h = absurd h
FollowsAll-at k (q ∷ ps) p b (inl e) = subst (λ (x : PathValue). Precedes (key x) k) (sym e) b.0
FollowsAll-at k (q ∷ ps) p b (inr h) = FollowsAll-at k ps p b.1 h

falling_last : (xs : List PathValue) (p : PathValue) → IsFalling xs → ((q : PathValue) → Member q xs → Precedes (key p) (key q)) → IsFalling (xs ++ p ∷ [])
unfolding IsFalling Member FollowsAll
falling_last [] p h b = (tt, tt)
falling_last (x ∷ xs) p h b = (
  FollowsAll-from (key x) (xs ++ p ∷ []) (λ q m. elim (Member-cases q xs (p ∷ []) m) [
    | inl i ↦ FollowsAll-at (key x) xs q h.0 i
    | inr i ↦ elim i [ inl e ↦ subst (λ (y : PathValue). Precedes (key y) (key x)) (sym e) (b x (inl refl)) | inr n ↦ absurd n ]
  ]),
  falling_last xs p h.1 (λ q m. b q (inr m)),
)

pub falling_reverse : (ps : List PathValue) → IsRising ps → IsFalling (reverse ps)
unfolding IsRising IsFalling
falling_reverse [] h = tt
falling_reverse (p ∷ ps) h =
    subst IsFalling (sym (reverse-append (p ∷ []) ps))
    (falling_last (reverse ps) p (falling_reverse ps h.1) (λ q m. PrecedesAll-at (key p) ps q h.0 (Member-reverse q ps m)))

rising_reverse : (ps : List PathValue) → IsFalling ps → IsRising (reverse ps)
unfolding IsRising IsFalling PrecedesAll Member
rising_reverse [] h = tt
rising_reverse (p ∷ ps) h =
    subst IsRising (sym (reverse-append (p ∷ []) ps))
    (IsRising-append (reverse ps) (p ∷ []) (rising_reverse ps h.1) (tt, tt)
    (λ x y i j. elim j [
      | inl e ↦ subst (λ (z : PathValue). Precedes (key x) (key z)) (sym e) (FollowsAll-at (key p) ps x h.0 (Member-reverse x ps i))
      | inr n ↦ absurd n
    ]))

pub before-is : (allows : Allowance) (n : ℕ) (path_by : Assignment → PathValue) (k : List ℕ) (all : List PathValue) → IsListing allows n path_by all →
    IsListingBefore allows n path_by k (before k all)
before-is allows n path_by k all is = record {
  falling = falling_reverse (filter (λ q. precedes (key q) k) all) (kept-rising (λ q. precedes (key q) k) all is.rising);
  members = λ p. (
    (λ m. let w = Member-filter_back (λ q. precedes (key q) k) all p (Member-reverse p (filter (λ q. precedes (key q) k) all) m) in
        ((is.members p).0 w.0, Precedes-from (key p) k w.1)),
    (λ w. to_reverse p (filter (λ q. precedes (key q) k) all)
        (Member-filter (λ q. precedes (key q) k) all p ((is.members p).1 w.0) (Precedes-to (key p) k w.1))),
  );
}

pub one_part_before : (allows : Allowance) (n : ℕ) (path_by : Assignment → PathValue) (k : List ℕ) (xs ys : List PathValue) →
    IsListingBefore allows n path_by k xs → IsListingBefore allows n path_by k ys → xs ≡ ys
one_part_before allows n path_by k xs ys x y =
    let same : reverse xs ≡ reverse ys =
    rising-same (reverse xs) (reverse ys) (rising_reverse xs x.falling) (rising_reverse ys y.falling)
    (λ p i. to_reverse p ys ((y.members p).1 ((x.members p).0 (Member-reverse p xs i))))
    (λ p i. to_reverse p xs ((x.members p).1 ((y.members p).0 (Member-reverse p ys i)))) in
    sym (reverse-reverse xs) ∙ ap reverse same ∙ reverse-reverse ys

-- THE LAWS

pub part_after_proof : PartAfter
part_after_proof allows n path_by k all part is h = one_part_after allows n path_by k part (after k all) h (after-is allows n path_by k all is)

pub part_before_proof : PartBefore
part_before_proof allows n path_by k all part is h = one_part_before allows n path_by k part (before k all) h (before-is allows n path_by k all is)

pub pages_proof : PagesJoin
pages_proof allows n path_by all sizes is ok =
    pages_front (λ k. after k all) all [] all sizes (λ front rest p e. split_after all front p rest e is.rising) refl ok

pub ends_proof : EndsMeet
ends_proof allows n path_by all back path is member h =
    let w = around path all member in
    let e : reverse back ≡ w.front = ap reverse (part_before_proof allows n path_by (key path) all back is h)
    ∙ reverse-reverse (filter (λ q. precedes (key q) (key path)) all) ∙ split_front all w.front path w.rest w.is is.rising in
    ap (λ (x : List PathValue). x ++ path ∷ after (key path) all) e
    ∙ ap (λ (x : List PathValue). w.front ++ path ∷ x) (split_after all w.front path w.rest w.is is.rising)
    ∙ sym w.is

pub pages_back_proof : PagesJoinBackwards
pages_back_proof allows n path_by all back path sizes is member h ok =
    let w = around path all member in
    let e : reverse back ≡ w.front = ap reverse (part_before_proof allows n path_by (key path) all back is h)
    ∙ reverse-reverse (filter (λ q. precedes (key q) (key path)) all) ∙ split_front all w.front path w.rest w.is is.rising in
    pages_front (λ k. before k all) back [] back sizes
    (λ front rest p f.
    let turned : reverse back ≡ reverse rest ++ p ∷ reverse front =
    ap reverse f ∙ reverse-append front (p ∷ rest) ∙ ap (λ (x : List PathValue). x ++ reverse front) (reverse-append (p ∷ []) rest)
    ∙ append_assoc (reverse rest) (p ∷ []) (reverse front) in
    let whole : all ≡ reverse rest ++ p ∷ (reverse front ++ path ∷ w.rest) =
    w.is ∙ ap (λ (x : List PathValue). x ++ path ∷ w.rest) (sym e ∙ turned) ∙ append_assoc (reverse rest) (p ∷ reverse front) (path ∷ w.rest) in
    ap reverse (split_front all (reverse rest) p (reverse front ++ path ∷ w.rest) whole is.rising) ∙ reverse-reverse rest)
    refl ok
