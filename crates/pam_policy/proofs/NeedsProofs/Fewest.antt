-- The fewest of some things, groups of them, and what is found for some.
use Rattle.std.proofs.Common.{◌≡◌, ◌∙◌, ◌++◌, ◌+◌, ℕ, ◌<◌, ◌≤◌, List, [], ◌∷◌, ap, append-nil, append_assoc, arith, drop, get_or, inl, inr, length, refl}
use Rattle.std.proofs.Common.{◌⊎◌, subst, sym}
use Rattle.std.proofs.lemmas.List.{drop_all, drop_more}
use Rattle.pam_text.specs.Members.{Member}
use Rattle.pam_policy.specs.needs.Fewest.{AreFewest, AreFound, AreGroups, AreThose}

module _ {X : Type 0} (Enough : List X → Type 0) where
  pub fewest-none : (before : List X) → AreFewest Enough before [] [] []
  unfolding AreFewest
  fewest-none before = (refl, refl)

  -- one more above the others is left out, or stays
  pub fewest-left : (before after kept left : List X) (x : X) → Enough (before ++ kept) → AreFewest Enough (before ++ x ∷ []) after kept left →
      AreFewest Enough before (x ∷ after) kept (x ∷ left)
  unfolding AreFewest
  fewest-left before after kept left x enough are = inl (left, refl, enough, are)

  pub fewest-kept : (before after kept left : List X) (x : X) → (Enough (before ++ kept) → ⊥) → AreFewest Enough (before ++ x ∷ []) after kept left →
      AreFewest Enough before (x ∷ after) (x ∷ kept) left
  unfolding AreFewest
  fewest-kept before after kept left x not_enough are = inr (kept, refl, not_enough, are)

  -- the fewest are enough, if all are
  pub fewest-enough : (before some kept left : List X) → AreFewest Enough before some kept left → Enough (before ++ some) → Enough (before ++ kept)
  unfolding AreFewest
  fewest-enough before [] kept left are enough = subst (λ k. Enough (before ++ k)) (sym are.0) enough
  fewest-enough before (x ∷ after) kept left (inl are) enough = are.2
  fewest-enough before (x ∷ after) kept left (inr are) enough =
      let all = subst Enough (sym (append_assoc before (x ∷ []) after)) enough in
      let rest = fewest-enough (before ++ x ∷ []) after are.0 left are.3 all in
      subst (λ k. Enough (before ++ k)) (sym are.1) (subst Enough (append_assoc before (x ∷ []) are.0) rest)

  -- what stays and what is left out are as many as before
  pub fewest-length : (before some kept left : List X) → AreFewest Enough before some kept left → length kept + length left ≡ length some
  unfolding AreFewest
  fewest-length before [] kept left are = omega (arith, ap length are.0, ap length are.1)
  fewest-length before (x ∷ after) kept left (inl are) =
      let rest = fewest-length (before ++ x ∷ []) after kept are.0 are.3 in
      omega (arith, ap length are.1, rest)
  fewest-length before (x ∷ after) kept left (inr are) =
      let rest = fewest-length (before ++ x ∷ []) after are.0 left are.3 in
      omega (arith, ap length are.1, rest)

  -- there is one way to leave out
  pub fewest-one : (before some kept left other others : List X) → AreFewest Enough before some kept left → AreFewest Enough before some other others →
      (kept ≡ other) × (left ≡ others)
  unfolding AreFewest
  fewest-one before [] kept left other others one two = (one.0 ∙ sym two.0, one.1 ∙ sym two.1)
  fewest-one before (x ∷ after) kept left other others (inl one) (inl two) =
      let same = fewest-one (before ++ x ∷ []) after kept one.0 other two.0 one.3 two.3 in
      (same.0, one.1 ∙ ap (λ l. x ∷ l) same.1 ∙ sym two.1)
  fewest-one before (x ∷ after) kept left other others (inl one) (inr two) =
      let same = fewest-one (before ++ x ∷ []) after kept one.0 two.0 others one.3 two.3 in
      absurd (two.2 (subst (λ k. Enough (before ++ k)) same.0 one.2))
  fewest-one before (x ∷ after) kept left other others (inr one) (inl two) =
      let same = fewest-one (before ++ x ∷ []) after one.0 left other two.0 one.3 two.3 in
      absurd (one.2 (subst (λ k. Enough (before ++ k)) (sym same.0) two.2))
  fewest-one before (x ∷ after) kept left other others (inr one) (inr two) =
      let same = fewest-one (before ++ x ∷ []) after one.0 left two.0 others one.3 two.3 in
      (one.1 ∙ ap (λ l. x ∷ l) same.0 ∙ sym two.1, same.1)

cons-head : {X : Type 0} (x y : X) (xs ys : List X) → x ∷ xs ≡ y ∷ ys → x ≡ y
cons-head x y xs ys e = cc

cons-tail : {X : Type 0} (x y : X) (xs ys : List X) → x ∷ xs ≡ y ∷ ys → xs ≡ ys
cons-tail x y xs ys e = cc

no-cons : {X : Type 0} (x : X) (front back : List X) → [] ≡ front ++ x ∷ back → ⊥
no-cons x [] back e = absurd cc
no-cons x (y ∷ front) back e = absurd cc

-- MEMBERS

pub member-back : {X : Type 0} (x : X) (front back : List X) → Member x back → Member x (front ++ back)
unfolding Member
member-back x [] back m = m
member-back x (y ∷ front) back m = inr (member-back x front back m)

pub member-front : {X : Type 0} (x : X) (front back : List X) → Member x front → Member x (front ++ back)
unfolding Member
member-front x [] back m = absurd m
member-front x (y ∷ front) back (inl e) = inl e
member-front x (y ∷ front) back (inr m) = inr (member-front x front back m)

pub member-split : {X : Type 0} (x : X) (front back : List X) → Member x (front ++ back) → Member x front ⊎ Member x back
unfolding Member
member-split x [] back m = inr m
member-split x (y ∷ front) back (inl e) = inl (inl e)
member-split x (y ∷ front) back (inr m) = elim (member-split x front back m) [ inl f ↦ inl (inr f) | inr b ↦ inr b ]

member-between : {X : Type 0} (x y : X) (before after : List X) → Member x (before ++ after) → Member x ((before ++ y ∷ []) ++ after)
member-between x y before after m =
    elim (member-split x before after m) [
      | inl f ↦ member-front x (before ++ y ∷ []) after (member-front x before (y ∷ []) f)
      | inr b ↦ member-back x (before ++ y ∷ []) after b
    ]

-- NONE OF THE FEWEST CAN BE LEFT OUT, where more are enough if some of them are
module _ {X : Type 0} (Enough : List X → Type 0) (more : (xs ys : List X) → ((x : X) → Member x xs → Member x ys) → Enough xs → Enough ys) where
  pub fewest-needed : (before some kept left front back : List X) (x : X) → AreFewest Enough before some kept left → kept ≡ front ++ x ∷ back →
      Enough (before ++ (front ++ back)) → ⊥
  unfolding AreFewest
  fewest-needed before [] kept left front back x are is enough = no-cons x front back (sym are.0 ∙ is)
  fewest-needed before (y ∷ after) kept left front back x (inl are) is enough =
      fewest-needed (before ++ y ∷ []) after kept are.0 front back x are.3 is
      (more (before ++ (front ++ back)) ((before ++ y ∷ []) ++ (front ++ back)) (λ z m. member-between z y before (front ++ back) m) enough)
  fewest-needed before (y ∷ after) kept left [] back x (inr are) is enough =
      are.2 (subst (λ k. Enough (before ++ k)) (cons-tail x y back are.0 (sym is ∙ are.1)) enough)
  fewest-needed before (y ∷ after) kept left (z ∷ front) back x (inr are) is enough =
      let same = sym is ∙ are.1 in
      fewest-needed (before ++ y ∷ []) after are.0 left front back x are.3 (sym (cons-tail z y (front ++ x ∷ back) are.0 same))
      (subst Enough (sym (append_assoc before (y ∷ []) (front ++ back)))
      (subst (λ w. Enough (before ++ w ∷ (front ++ back))) (cons-head z y (front ++ x ∷ back) are.0 same) enough))

-- WHAT IS FOUND, one after another
module _ {X Y : Type 0} (Goes : X → Y → Type 0) where
  -- what is found so far, and then what is found for the rest, is found for all
  abbrev pub SoFar : List X → ℕ → List Y → Type 0
  SoFar xs i found = (rest : List Y) → AreFound Goes (drop i xs) rest → AreFound Goes xs (found ++ rest)

  pub found-next : (xs : List X) (i : ℕ) (d : X) (old new : List Y) (y : Y) → new ≡ old ++ y ∷ [] → i < length xs → Goes (get_or xs i d) y →
      SoFar xs i old → SoFar xs (i + 1) new
  unfolding AreFound
  found-next xs i d old new y pushed within goes so_far rest are =
      let longer : AreFound Goes (drop i xs) (y ∷ rest) =
      subst (λ l. AreFound Goes l (y ∷ rest)) (sym (drop_more xs i d within)) (inl (y, rest, refl, goes, are)) in
      subst (AreFound Goes xs) (sym (append_assoc old (y ∷ []) rest) ∙ ap (λ (l : List Y). l ++ rest) (sym pushed)) (so_far (y ∷ rest) longer)

  pub found-skip : (xs : List X) (i : ℕ) (d : X) (found : List Y) → i < length xs → ((y : Y) → Goes (get_or xs i d) y → ⊥) →
      SoFar xs i found → SoFar xs (i + 1) found
  unfolding AreFound
  found-skip xs i d found within not so_far rest are =
      so_far rest (subst (λ l. AreFound Goes l rest) (sym (drop_more xs i d within)) (inr (not, are)))

  pub found-done : (xs : List X) (i : ℕ) (found : List Y) → length xs ≤ i → SoFar xs i found → AreFound Goes xs found
  unfolding AreFound
  found-done xs i found past so_far =
      subst (AreFound Goes xs) (append-nil found) (so_far [] (subst (λ l. AreFound Goes l []) (sym (drop_all i xs past)) refl))

  -- what is found goes with one of them
  pub found-of : (xs : List X) (found : List Y) → AreFound Goes xs found → (y : Y) → Member y found → (x : X) × Member x xs × Goes x y
  unfolding AreFound Member
  found-of [] found are y m = absurd (subst (Member y) are m)
  found-of (x ∷ xs) found (inl are) y m =
      elim (subst (Member y) are.2 m) [
        | inl e ↦ (x, inl refl, subst (Goes x) (sym e) are.3)
        | inr later ↦ let of = found-of xs are.1 are.4 y later in (of.0, inr of.1, of.2)
      ]
  found-of (x ∷ xs) found (inr are) y m = let of = found-of xs found are.1 y m in (of.0, inr of.1, of.2)

-- each of some things of which something holds is among those
pub those-all : {X : Type 0} (Such : X → Type 0) (xs found : List X) → AreThose Such xs found → (x : X) → Member x xs → Such x → Member x found
unfolding AreFound Member
those-all Such [] found are x m such = absurd m
those-all {X} Such (y ∷ xs) found (inl are) x (inl e) such = subst (Member x) (sym are.2) (inl (e ∙ are.3.0))
those-all {X} Such (y ∷ xs) found (inl are) x (inr m) such = subst (Member x) (sym are.2) (inr (those-all Such xs are.1 are.4 x m such))
those-all {X} Such (y ∷ xs) found (inr are) x (inl e) such = absurd (are.0 y (refl, subst Such e such))
those-all {X} Such (y ∷ xs) found (inr are) x (inr m) such = those-all Such xs found are.1 x m such

-- GROUPS, one after another
module _ {X : Type 0} (Enough : List X → Type 0) where
  abbrev pub GroupsSoFar : List X → List X → List (List X) → Type 0
  GroupsSoFar all rest groups = (more : List (List X)) → AreGroups Enough rest more → AreGroups Enough all (groups ++ more)

  pub groups-next : (all rest group left : List X) (groups : List (List X)) → Enough rest → AreFewest Enough [] rest group left →
      GroupsSoFar all rest groups → GroupsSoFar all left (groups ++ group ∷ [])
  unfolding AreGroups
  groups-next all rest group left groups enough are so_far more rest_are =
      subst (AreGroups Enough all) (sym (append_assoc groups (group ∷ []) more)) (so_far (group ∷ more) (enough, (left, are, rest_are)))

  pub groups-done : (all rest : List X) (groups : List (List X)) → (Enough rest → ⊥) → GroupsSoFar all rest groups → AreGroups Enough all groups
  unfolding AreGroups
  groups-done all rest groups not so_far = subst (AreGroups Enough all) (append-nil groups) (so_far [] not)

  -- each group is enough
  pub groups-enough : (rest : List X) (groups : List (List X)) → AreGroups Enough rest groups → (group : List X) → Member group groups → Enough group
  unfolding AreGroups Member
  groups-enough rest [] are group m = absurd m
  groups-enough rest (first ∷ groups) are group (inl e) =
      subst Enough (sym e) (fewest-enough Enough [] rest first are.1.0 are.1.1 are.0)
  groups-enough rest (first ∷ groups) are group (inr m) = groups-enough are.1.0 groups are.1.2 group m
