-- A page in lines of some form, line by line.
use Rattle.std.proofs.Common.{◌≡◌, ℕ, ◌+◌, ◌-◌, ◌<◌, ◌≤◌, List, [], ◌∷◌, ◌++◌, length, take, drop, refl, sym, ap, ◌∙◌, arith}
use Rattle.std.proofs.Common.{append_assoc, append-nil, ◌⊎◌, inl, inr, add-zero, Bool, cond, Option, Some, None, length-append, length-drop}
use Rattle.std.proofs.lemmas.Bool.Decides.{leb_tells}
use Rattle.std.proofs.lemmas.Bool.{le-leb, lt-leb}
use Rattle.std.proofs.lemmas.List.{drop_more, length-take-le, take-append-drop, take_more}
use Rattle.std.proofs.lemmas.Grind.{flat_map-append}
use Rattle.std.specs.List.{flat_map}
use lib.Seq.{take-add}
use Rattle.pam_text.proofs.FlatTexts.{flat_map-push}
use Rattle.pam_page.specs.Page.{first_page, text_by}
use Rattle.pam_paths.specs.Pages.{Page, last_key}
use Rattle.pam_paths.specs.Paths.{PathValue, key}

-- the first of the remaining elements of a list
pub record Goes {A : Type 0} (all : List A) (i : ℕ) (x : A) (rest : List A) : Type 0 where
  pub inside : i < length all
  pub before : take (i + 1) all ≡ take i all ++ x ∷ []
  pub after : drop (i + 1) all ≡ rest

pub goes : {A : Type 0} (all : List A) (i : ℕ) (x : A) (rest : List A) → drop i all ≡ x ∷ rest → Goes all i x rest
goes {A} all i x rest e =
    let inside : i < length all = omega (arith, ap length e, length-drop i all) in
    let front = take_more all i x inside in
    let back = drop_more all i x inside in
    record { inside = inside; before = cc; after = cc }

last_key-append : (xs : List PathValue) (y : PathValue) (ys : List PathValue) → last_key (xs ++ y ∷ ys) ≡ last_key (y ∷ ys)
unfolding last_key
last_key-append [] y ys = refl
last_key-append (x ∷ []) y ys = refl
last_key-append (x ∷ z ∷ xs) y ys = last_key-append (z ∷ xs) y ys

cases_le : (a b : ℕ) → (a ≤ b) ⊎ (b < a)
cases_le a b = elim (leb_tells a b) [ inl t ↦ inl t.1 | inr f ↦ inr f.1 ]

first_page-end : (limit : ℕ) (paths : List PathValue) → length paths ≤ limit → first_page limit paths ≡ record { paths = paths; more = None }
first_page-end limit paths h =
    ap (λ (b : Bool). cond b (record { paths = paths; more = None }) (record { paths = take limit paths; more = Some (last_key (take limit paths)) }))
    (le-leb (length paths) limit h)

first_page-more : (limit : ℕ) (paths : List PathValue) → limit < length paths
    → first_page limit paths ≡ record { paths = take limit paths; more = Some (last_key (take limit paths)) }
first_page-more limit paths h =
    ap (λ (b : Bool). cond b (record { paths = paths; more = None }) (record { paths = take limit paths; more = Some (last_key (take limit paths)) }))
    (lt-leb (length paths) limit h)

last_key-joined : (front back : List PathValue) → 1 ≤ length back → last_key (front ++ back) ≡ last_key back
last_key-joined front [] h = absurd (omega (arith, h))
last_key-joined front (y ∷ ys) h = last_key-append front y ys

module _ (line : PathValue → List ℕ) (last : List ℕ → ℕ → Option (List ℕ) → List ℕ) where
  -- lines, and then the rest of the page
  joined_page : (side : List ℕ) (n : ℕ) (front back all : List PathValue) (more : Option (List ℕ)) → front ++ back ≡ all → length front ≡ n
      → flat_map line front ++ text_by line last side n (record { paths = back; more = more }) ≡ text_by line last side 0 (record { paths = all; more = more })
  unfolding text_by
  joined_page side n front back all more e l =
      let count : n + length back ≡ 0 + length all = omega (arith, l, ap length e, length-append {A = PathValue}) in
      sym (append_assoc (flat_map line front) (flat_map line back) (last side (n + length back) more))
      ∙ ap (λ (text : List ℕ). text ++ last side (n + length back) more) (sym (flat_map-append line front back) ∙ ap (flat_map line) e)
      ∙ ap (λ (k : ℕ). flat_map line all ++ last side k more) count

  -- the first lines of a page, and the rest of it
  pub page_at : (side : List ℕ) (all : List PathValue) (n m limit : ℕ) → n + m ≡ limit → 1 ≤ m → n ≤ length all
      → flat_map line (take n all) ++ text_by line last side n (first_page m (drop n all)) ≡ text_by line last side 0 (first_page limit all)
  page_at side all n m limit e some within =
      let front = take n all in
      let left = drop n all in
      let taken : length front ≡ n = length-take-le n all within in
      let remaining : length left ≡ length all - n = length-drop n all in
      let text = λ (page : Page). flat_map line front ++ text_by line last side n page in
      elim (cases_le (length all) limit) [
        | inl few ↦
            ap text (first_page-end m left (omega arith)) ∙ joined_page side n front left all None (take-append-drop n all) taken
            ∙ ap (text_by line last side 0) (sym (first_page-end limit all few))
        | inr many ↦
            let parts : front ++ take m left ≡ take limit all = sym (take-add n m all) ∙ ap (λ (k : ℕ). take k all) e in
            let long : length (take m left) ≡ m = length-take-le m left (omega arith) in
            let ends : last_key (take limit all) ≡ last_key (take m left) = ap last_key (sym parts) ∙ last_key-joined front (take m left) (omega arith) in
            ap text (first_page-more m left (omega arith)) ∙ joined_page side n front (take m left) (take limit all) (Some (last_key (take m left))) parts taken
            ∙ ap (λ (k : List ℕ). text_by line last side 0 (record { paths = take limit all; more = Some k })) (sym ends)
            ∙ ap (text_by line last side 0) (sym (first_page-more limit all many))
      ]

  -- ---- the rest of a page that has room for one more line

  pub rest_none : (side : List ℕ) (count m : ℕ) → text_by line last side count (first_page m []) ≡ last side count None
  unfolding text_by
  rest_none side count m =
      ap (text_by line last side count) (first_page-end m [] (omega arith)) ∙ ap (λ (k : ℕ). last side k None) (add-zero count)

  pub rest_end : (side : List ℕ) (count : ℕ) (path : PathValue)
      → line path ++ last side (count + 1) None ≡ text_by line last side count (first_page 1 (path ∷ []))
  unfolding text_by
  rest_end side count path =
      ap (λ (text : List ℕ). text ++ last side (count + 1) None) (sym (append-nil (line path)))
      ∙ ap (text_by line last side count) (sym (first_page-end 1 (path ∷ []) (omega arith)))

  pub rest_more : (side : List ℕ) (count : ℕ) (path next : PathValue) (paths : List PathValue)
      → line path ++ last side (count + 1) (Some (key path)) ≡ text_by line last side count (first_page 1 (path ∷ next ∷ paths))
  unfolding text_by last_key
  rest_more side count path next paths =
      ap (λ (text : List ℕ). text ++ last side (count + 1) (Some (key path))) (sym (append-nil (line path)))
      ∙ ap (text_by line last side count) (sym (first_page-more 1 (path ∷ next ∷ paths) (omega arith)))

  -- its first line is that of the first path
  pub rest_front : (side : List ℕ) (count : ℕ) (path : PathValue) (paths : List PathValue)
      → (more : List ℕ) × (line path ++ more ≡ text_by line last side count (first_page 1 (path ∷ paths)))
  rest_front side count path [] = (last side (count + 1) None, rest_end side count path)
  rest_front side count path (next ∷ paths) = (last side (count + 1) (Some (key path)), rest_more side count path next paths)

  -- ---- the same, from the results of calls

  pub rest_end-is : (side at : List ℕ) (count n : ℕ) (path : PathValue) (paths left : List PathValue)
      → at ≡ side → n ≡ count + 1 → paths ≡ path ∷ left → left ≡ []
      → line path ++ last at n None ≡ text_by line last side count (first_page 1 paths)
  rest_end-is side at count n path paths left is_at is_count first none =
      rw (is_at, is_count, first, none) (rest_end side count path)

  pub rest_more-is : (side at : List ℕ) (count n : ℕ) (cursor : List ℕ) (path next : PathValue) (paths left more : List PathValue)
      → at ≡ side → n ≡ count + 1
      → cursor ≡ key path → paths ≡ path ∷ left → left ≡ next ∷ more
      → line path ++ last at n (Some cursor) ≡ text_by line last side count (first_page 1 paths)
  rest_more-is side at count n cursor path next paths left more is_at is_count is_key first second =
      rw (is_at, is_count, is_key, first, second) (rest_more side count path next more)

  -- no path is left
  pub page_none : (side at : List ℕ) (all : List PathValue) (count n limit : ℕ)
      → count < limit → count ≤ length all → drop count all ≡ [] → at ≡ side → n ≡ count
      → flat_map line (take count all) ++ last at n None ≡ text_by line last side 0 (first_page limit all)
  page_none side at all count n limit room within none is_at is_count =
      let front = flat_map line (take count all) in
      let m = limit - count in
      let text = λ (left : List PathValue). front ++ text_by line last side count (first_page m left) in
      rw (is_at, is_count)
      (ap (λ (end : List ℕ). front ++ end) (sym (rest_none side count m)) ∙ ap text (sym none)
      ∙ page_at side all count m limit (omega arith) (omega arith) within)

  -- one more line is written, and others follow
  pub page_front : (side : List ℕ) (all : List PathValue) (count limit : ℕ) (path : PathValue) (rest : List PathValue)
      → count + 1 < limit → drop count all ≡ path ∷ rest
      → (more : List ℕ) × ((flat_map line (take count all) ++ line path) ++ more ≡ text_by line last side 0 (first_page limit all))
  page_front side all count limit path rest room first =
      let next = goes all count path rest first in
      let m = limit - (count + 1) in
      let lines : flat_map line (take (count + 1) all) ≡ flat_map line (take count all) ++ line path =
      ap (flat_map line) next.before ∙ flat_map-push line (take count all) path in
      let more = text_by line last side (count + 1) (first_page m (drop (count + 1) all)) in
      (more, ap (λ (text : List ℕ). text ++ more) (sym lines) ∙ page_at side all (count + 1) m limit (omega arith) (omega arith) (omega (arith, next.inside)))

  -- there is room for one more line
  pub page_rest : (side at : List ℕ) (all left : List PathValue) (count n limit : ℕ)
      → n + 1 ≡ limit → count ≡ n → count ≤ length all → left ≡ drop count all → at ≡ side
      → flat_map line (take count all) ++ text_by line last at n (first_page 1 left) ≡ text_by line last side 0 (first_page limit all)
  page_rest side at all left count n limit e is_count within is_left is_at =
      rw (is_left, is_at, ← is_count) (page_at side all count 1 limit (omega arith) (omega arith) within)
