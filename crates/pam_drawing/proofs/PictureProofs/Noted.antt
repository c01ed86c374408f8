-- The classes that have notes, as they are gathered.
use Rattle.std.proofs.Common.{◌≡◌, ◌∙◌, ℕ, ◌+◌, ◌-◌, ◌==◌, ◌<◌, ◌≤◌, suc, Bool, true, false, ◌&&◌, cond, List, [], ◌∷◌, ◌++◌, Option, Some, None}
use Rattle.std.proofs.Common.{slice_get, get_or, ◌≢◌, add-one, ap, drop, drop-cons, map, arith, sym, refl, length}
use Rattle.std.proofs.lemmas.List.Elements.{All-cons, All-push, Contains-append_right}
use Rattle.std.proofs.lemmas.List.Quantifiers.{all_pairs_push}
use Rattle.std.proofs.lemmas.Bool.{eqb-true}
use Rattle.std.specs.List.{All, AllPairs, Contains, flat_map}
use Rattle.std.specs.Cmp.Lexicographic.{other_text, same_text}
use Rattle.pam_drawing.specs.picture.Labels.{has_note}
use Rattle.pam_drawing.specs.picture.Notes.{if_noted}
use Rattle.pam_drawing.specs.picture.Notes.{is_same, number_from, with_class, with_classes}
use Rattle.pam_drawing.specs.picture.inner.Noted.{class_with}

self-same : (c : List ℕ) → is_same c c ≡ true
self-same c = elim (is_same c c) as (λ (t : Bool). is_same c c ≡ t → t ≡ true) [ true ↦ λ e. refl | false ↦ λ e. absurd (other_text c c (sym e) refl) ] refl

-- the class with the number of a class is that class
pub told : (n : ℕ) (cs : List (List ℕ)) (c : List ℕ) → 0 < number_from n cs c
    → (k : ℕ) × (number_from n cs c ≡ n + k) × (slice_get cs k ≡ Some c)
told n [] c = λ h. absurd (omega (arith, h))
told n (o ∷ os) c =
    elim (is_same o c) as (λ (t : Bool).
    is_same o c ≡ t → 0 < cond t n (number_from (n + 1) os c)
    → (k : ℕ) × (cond t n (number_from (n + 1) os c) ≡ n + k) × (slice_get (o ∷ os) k ≡ Some c)) [
      | true ↦ λ e h. (0, omega arith, ap Some (same_text o c (sym e)))
      | false ↦ λ e h. let r = told (n + 1) os c h in (suc r.0, omega (arith, r.1), r.2)
    ] refl

-- a number that is found is not 0, whatever comes after
pub positive : (n : ℕ) (cs ds : List (List ℕ)) (c : List ℕ) → 1 ≤ n → 0 < number_from n cs c → 0 < number_from n (cs ++ ds) c
positive n [] ds c one = λ h. absurd (omega (arith, h))
positive n (o ∷ os) ds c one =
    elim (is_same o c) as (λ (t : Bool). 0 < cond t n (number_from (n + 1) os c) → 0 < cond t n (number_from (n + 1) (os ++ ds) c)) [
      | true ↦ λ h. h
      | false ↦ λ h. positive (n + 1) os ds c (omega arith) h
    ]

-- the last one has a number
pub last : (n : ℕ) (cs : List (List ℕ)) (c : List ℕ) → 1 ≤ n → 0 < number_from n (cs ++ c ∷ []) c
last n [] c one = rw (self-same c) (omega arith)
last n (o ∷ os) c one =
    elim (is_same o c) as (λ (t : Bool). 0 < cond t n (number_from (n + 1) (os ++ c ∷ []) c)) [
      | true ↦ omega arith
      | false ↦ last (n + 1) os c (omega arith)
    ]

-- one that is added gives another one no number
pub other : (n : ℕ) (cs : List (List ℕ)) (d c : List ℕ) → is_same d c ≡ false → number_from n cs c ≡ 0 → number_from n (cs ++ d ∷ []) c ≡ 0
other n [] d c e = λ h. rw e refl
other n (o ∷ os) d c e =
    elim (is_same o c) as (λ (t : Bool). cond t n (number_from (n + 1) os c) ≡ 0 → cond t n (number_from (n + 1) (os ++ d ∷ []) c) ≡ 0) [
      | true ↦ λ h. h
      | false ↦ λ h. other (n + 1) os d c e h
    ]

-- what has a number keeps one
pub kept : (known xs : List (List ℕ)) (c : List ℕ) → 0 < number_from 1 known c → 0 < number_from 1 (with_classes known xs) c
kept known [] c h = h
kept known (x ∷ xs) c h =
    kept (with_class known x) xs c
    (elim (has_note x && (number_from 1 known x == 0)) as (λ (t : Bool). 0 < number_from 1 (cond t (known ++ x ∷ []) known) c) [
      | true ↦ positive 1 known (x ∷ []) c (omega arith) h
      | false ↦ h
    ])

-- a class that has a note is among those with it
pub added : (known : List (List ℕ)) (x : List ℕ) → has_note x ≡ true → 0 < number_from 1 (with_class known x) x
added known x noted =
    rw noted (elim (number_from 1 known x == 0) as (λ (t : Bool). (number_from 1 known x == 0) ≡ t → 0 < number_from 1 (cond t (known ++ x ∷ []) known) x) [
      | true ↦ λ e. last 1 known x (omega arith)
      | false ↦ λ e. grind (arith, e)
    ] refl)

-- a class without a note has no number
pub unnoted : (known xs : List (List ℕ)) (c : List ℕ) → has_note c ≡ false → number_from 1 known c ≡ 0 → number_from 1 (with_classes known xs) c ≡ 0
unnoted known [] c plain h = h
unnoted known (x ∷ xs) c plain h =
    unnoted (with_class known x) xs c plain
    (elim (has_note x) as (λ (t : Bool).
    has_note x ≡ t → number_from 1 (cond (t && (number_from 1 known x == 0)) (known ++ x ∷ []) known) c ≡ 0) [
      | true ↦ λ e. elim (number_from 1 known x == 0) as (λ (t : Bool). number_from 1 (cond t (known ++ x ∷ []) known) c ≡ 0) [
        | true ↦ other 1 known x c
            (elim (is_same x c) as (λ (t : Bool). is_same x c ≡ t → t ≡ false) [
              | true ↦ λ s. sym e ∙ ap has_note (same_text x c (sym s)) ∙ plain
              | false ↦ λ s. refl
            ] refl) h
        | false ↦ h
      ]
      | false ↦ λ e. h
    ] refl)

-- the class with the number of a class, if it has one
pub fitting : (known : List (List ℕ)) (c : List ℕ) → (has_note c ≡ true → 0 < number_from 1 known c) → (has_note c ≡ false → number_from 1 known c ≡ 0)
    → class_with known (number_from 1 known c) ≡ if_noted c
fitting known c has lacks =
    elim (has_note c) as (λ (t : Bool). has_note c ≡ t → class_with known (number_from 1 known c) ≡ cond t (Some c) None) [
      | true ↦ λ e. let found = told 1 known c (has e) in
          let at : number_from 1 known c - 1 ≡ found.0 = omega (arith, found.1) in
          let some : (number_from 1 known c == 0) ≡ false = grind (arith, has e) in
          rw some (ap (slice_get known) at ∙ found.2)
      | false ↦ λ e. rw (lacks e) refl
    ] refl

-- the classes of one list after those of another
pub after : (known xs ys : List (List ℕ)) → with_classes known (xs ++ ys) ≡ with_classes (with_classes known xs) ys
after known [] ys = refl
after known (x ∷ xs) ys = after (with_class known x) xs ys

-- those of one more element
pub next : {A : Type 0} (classes : A → List (List ℕ)) (elements : List A) (known new all : List (List ℕ)) (i : ℕ) (a : A) → i < length elements
    → a ≡ get_or elements i a → new ≡ with_classes known (classes a) → with_classes known (flat_map classes (drop i elements)) ≡ all
    → with_classes new (flat_map classes (drop (i + 1) elements)) ≡ all
next {A} classes elements known new all i a h at added so-far =
    let left = drop (i + 1) elements in
    let cut : drop i elements ≡ a ∷ left =
    drop-cons elements i a h ∙ ap (λ (x : A). x ∷ drop (suc i) elements) (sym at) ∙ ap (λ (n : ℕ). a ∷ drop n elements) (sym (add-one i)) in
    ap (λ (k : List (List ℕ)). with_classes k (flat_map classes left)) added ∙ sym (after known (classes a) (flat_map classes left))
    ∙ ap (λ (l : List A). with_classes known (flat_map classes l)) (sym cut) ∙ so-far

-- a class without a note has no number among all
pub lacking : (all xs : List (List ℕ)) → all ≡ with_classes [] xs → (c : List ℕ) → has_note c ≡ false → number_from 1 all c ≡ 0
lacking all xs e c plain = rw e (unnoted [] xs c plain refl)

-- the class with the number of a class
abbrev pub found : List (List ℕ) → List ℕ → Option (List ℕ)
found all c = class_with all (number_from 1 all c)

module _ (all : List (List ℕ)) (lacks : (c : List ℕ) → has_note c ≡ false → number_from 1 all c ≡ 0) where
  -- the classes of a list
  list-fits : (known xs rest : List (List ℕ)) → all ≡ with_classes known (xs ++ rest) → map (found all) xs ≡ map if_noted xs
  list-fits known [] rest e = refl
  list-fits known (x ∷ xs) rest e =
      let first : found all x ≡ if_noted x =
      fitting all x (λ noted. rw e (kept (with_class known x) (xs ++ rest) x (added known x noted))) (lacks x) in
      ap (λ (o : Option (List ℕ)). o ∷ map (found all) xs) first
      ∙ ap (λ (os : List (Option (List ℕ))). if_noted x ∷ os) (list-fits (with_class known x) xs rest e)

  -- the classes of each element
  pub each-fits : {A : Type 0} (classes : A → List (List ℕ)) (known : List (List ℕ)) (elements : List A)
      → all ≡ with_classes known (flat_map classes elements)
      → map (λ (a : A). map (found all) (classes a)) elements ≡ map (λ (a : A). map if_noted (classes a)) elements
  each-fits classes known [] e = refl
  each-fits {A} classes known (a ∷ later) e =
      let row = list-fits known (classes a) (flat_map classes later) e in
      let next = each-fits classes (with_classes known (classes a)) later (e ∙ after known (classes a) (flat_map classes later)) in
      ap (λ (o : List (Option (List ℕ))). o ∷ map (λ (b : A). map (found all) (classes b)) later) row
      ∙ ap (λ (os : List (List (Option (List ℕ)))). map if_noted (classes a) ∷ os) next

module _ (R : List ℕ → Type 0) where
  -- what holds of each class that has a note holds of each that is gathered
  pub only : (known xs : List (List ℕ)) → All R known → ((c : List ℕ) → Contains xs c → has_note c ≡ true → R c) → All R (with_classes known xs)
  only known [] before each = before
  only known (x ∷ xs) before each =
      only (with_class known x) xs
      (elim (has_note x) as (λ (t : Bool). has_note x ≡ t → All R (cond (t && (number_from 1 known x == 0)) (known ++ x ∷ []) known)) [
        | true ↦ λ noted. elim (number_from 1 known x == 0) as (λ (t : Bool). All R (cond t (known ++ x ∷ []) known)) [
          | true ↦ All-push R known x before (each x (0, omega arith, refl) noted)
          | false ↦ before
        ]
        | false ↦ λ e. before
      ] refl)
      (λ c h. each c (Contains-append_right (x ∷ []) xs c h))

-- a class without a number is none of them
pub apart : (n : ℕ) (known : List (List ℕ)) (x : List ℕ) → 1 ≤ n → number_from n known x ≡ 0 → All (λ c. c ≢ x) known
apart n [] x one = λ e k d h. absurd (omega (arith, h))
apart n (o ∷ os) x one =
    elim (is_same o x) as (λ (t : Bool). is_same o x ≡ t → cond t n (number_from (n + 1) os x) ≡ 0 → All (λ c. c ≢ x) (o ∷ os)) [
      | true ↦ λ s e. absurd (omega (arith, e, one))
      | false ↦ λ s e. All-cons (λ c. c ≢ x) o os (other_text o x (sym s)) (apart (n + 1) os x (omega arith) e)
    ] refl

-- no class is gathered twice
pub once : (known xs : List (List ℕ)) → AllPairs (λ c d. c ≢ d) known → AllPairs (λ c d. c ≢ d) (with_classes known xs)
once known [] before = before
once known (x ∷ xs) before =
    once (with_class known x) xs
    (elim (has_note x) as (λ (t : Bool). AllPairs (λ c d. c ≢ d) (cond (t && (number_from 1 known x == 0)) (known ++ x ∷ []) known)) [
      | true ↦ elim (number_from 1 known x == 0) as (λ (t : Bool).
          (number_from 1 known x == 0) ≡ t → AllPairs (λ c d. c ≢ d) (cond t (known ++ x ∷ []) known)) [
            | true ↦ λ e. all_pairs_push (λ c d. c ≢ d) known x before (apart 1 known x (omega arith) (eqb-true (number_from 1 known x) 0 e))
            | false ↦ λ e. before
          ] refl
      | false ↦ before
    ])
