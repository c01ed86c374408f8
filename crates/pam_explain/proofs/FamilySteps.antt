-- The rows that are left after a row of a family.
use Rattle.std.proofs.Common.{◌≡◌, ◌∙◌, sym, ap, subst, refl, ℕ, zero, suc, ◌+◌, ◌<◌, ◌≤◌, Bool, true, false, Option, Some, None, slice_get}
use Rattle.std.proofs.Common.{List, [], ◌∷◌, ◌++◌, drop, get_or, length, min, arith, ⊎_elim}
use Rattle.std.proofs.lemmas.Bool.{cases_lt, leb-true}
use Rattle.std.proofs.lemmas.List.{get_or_past, length-append}
use Rattle.std.specs.List.{list_all}
use Rattle.std.specs.Option.{option_map}
use Rattle.pam_explain.specs.Explanation.{Explanation}
use Rattle.pam_explain.specs.Explanations.{explanations, families, rows_of}

-- ---- a row of a list

row_there : {X : Type 0} (xs : List X) (i : ℕ) (x : X) → slice_get xs i ≡ Some x → (drop i xs ≡ x ∷ drop (suc i) xs) × (i < length xs)
row_there [] i x e = absurd (let no : None ≡ Some x = e in cc)
row_there (y ∷ ys) zero x e = ((let same : Some y ≡ Some x = e in cc), omega arith)
row_there (y ∷ ys) (suc i) x e =
    let there = row_there ys i x e in
    (there.0, omega (arith, there.1))

row_past : {X : Type 0} (xs : List X) (i : ℕ) → slice_get xs i ≡ None → drop i xs ≡ []
row_past [] zero e = refl
row_past [] (suc i) e = refl
row_past (y ∷ ys) zero e = absurd (let no : Some y ≡ None = e in cc)
row_past (y ∷ ys) (suc i) e = row_past ys i e

-- ---- the families

abbrev pub has_rows : List Explanation → Bool
has_rows [] = false
has_rows (row ∷ rows) = true

all_have_rows : list_all has_rows families ≡ true
unfolding families
all_have_rows = refl

-- any bound below 2^64 will do here, and any below 255 for families
all_are_few : length explanations ≤ 1000
unfolding families
all_are_few = leb-true (length explanations) 1000 refl

are_few : length families ≤ 200
unfolding families
are_few = leb-true (length families) 200 refl

short_at : (xs : List (List Explanation)) (n : ℕ) → length (get_or xs n []) ≤ length (rows_of xs)
short_at [] n = omega arith
short_at (x ∷ xs) zero = omega (arith, length-append x (rows_of xs))
short_at (x ∷ xs) (suc n) = omega (arith, length-append x (rows_of xs), short_at xs n)

rows_at : (xs : List (List Explanation)) (n : ℕ) (row : Explanation) (rows : List Explanation) → get_or xs n [] ≡ row ∷ rows →
    (n < length xs) × (rows_of (drop n xs) ≡ row ∷ (rows ++ rows_of (drop (suc n) xs)))
rows_at [] n row rows e = absurd (let no : [] ≡ row ∷ rows = e in cc)
rows_at (x ∷ xs) zero row rows e = (omega arith, ap (λ (family : List Explanation). family ++ rows_of xs) e)
rows_at (x ∷ xs) (suc n) row rows e =
    let there = rows_at xs n row rows e in
    (omega (arith, there.0), there.1)

none_left : (xs : List (List Explanation)) (n : ℕ) → list_all has_rows xs ≡ true → get_or xs n [] ≡ [] → rows_of (drop n xs) ≡ []
none_left [] zero h e = refl
none_left [] (suc n) h e = refl
none_left ([] ∷ xs) n h e = absurd (let no : false ≡ true = h in cc)
none_left ((r ∷ rs) ∷ xs) zero h e = absurd (let no : (r ∷ rs) ≡ [] = e in cc)
none_left ((r ∷ rs) ∷ xs) (suc n) h e = none_left xs n h e

-- ---- the steps of the iterator

-- the rows after those of the first `row` rows of a family
abbrev pub rows_after : ℕ → ℕ → List Explanation
rows_after family row = drop row (get_or families family []) ++ rows_of (drop (family + 1) families)

module _ {X : Type 0} (view : X → Explanation) (family row next : ℕ) (found : Option X)
    (is : option_map view found ≡ slice_get (get_or families family []) row) where
  -- the family has one more row
  pub same_family : (first : X) → found ≡ Some first → next ≡ min (row + 1) 18446744073709551615 →
      rows_after family row ≡ view first ∷ rows_after family next
  same_family first some step =
      let there = row_there (get_or families family []) row (view first) (sym is ∙ ap (option_map view) some) in
      let short = short_at families family in
      let few = all_are_few in
      let one : suc row ≡ next = omega (arith, step, there.1, short, few) in
      ap (λ (rows : List Explanation). rows ++ rows_of (drop (family + 1) families)) there.0
      ∙ ap (λ (k : ℕ). view first ∷ rows_after family k) one

  none_here : found ≡ None → rows_after family row ≡ rows_of (drop (family + 1) families)
  none_here none =
      ap (λ (rows : List Explanation). rows ++ rows_of (drop (family + 1) families))
      (row_past (get_or families family []) row (sym is ∙ ap (option_map view) none))

  module _ (later : Option X) (then : option_map view later ≡ slice_get (get_or families next []) 0) (none : found ≡ None)
      (step : next ≡ min (family + 1) 255) where
    -- it has none, and the next one has a row
    pub next_family : (first : X) → later ≡ Some first → rows_after family row ≡ view first ∷ rows_after next 1
    next_family first some =
        let rows = drop 1 (get_or families next []) in
        let there : get_or families next [] ≡ view first ∷ rows =
        (row_there (get_or families next []) 0 (view first) (sym then ∙ ap (option_map view) some)).0 in
        let more = rows_at families next (view first) rows there in
        let few = are_few in
        let one : family + 1 ≡ next = omega (arith, step, few, more.0) in
        let after : suc next ≡ next + 1 = omega arith in
        none_here none
        ∙ ap (λ (k : ℕ). rows_of (drop k families)) one
        ∙ more.1
        ∙ ap (λ (k : ℕ). view first ∷ (rows ++ rows_of (drop k families))) after

    -- it has none, and there is no other
    pub no_family : later ≡ None → rows_after family row ≡ []
    no_family past =
        let few = are_few in
        let last : get_or families (family + 1) [] ≡ [] =
        ⊎_elim (λ less. let one : family + 1 ≡ next = omega (arith, step, less) in
        ap (λ (k : ℕ). get_or families k []) one ∙ row_past (get_or families next []) 0 (sym then ∙ ap (option_map view) past))
        (λ more. get_or_past families (family + 1) [] (omega (arith, few, more))) (cases_lt (family + 1) 255) in
        none_here none ∙ none_left families (family + 1) all_have_rows last

pub shorter : (old : List Explanation) (first : Explanation) (new : List Explanation) → old ≡ first ∷ new → length new < length old
shorter old first new e = subst (λ (l : List Explanation). length new < length l) (sym e) (omega arith)
