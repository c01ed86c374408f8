-- The tables of the texts of codes.
use Rattle.std.proofs.Common.{◌≡◌, ℕ, ◌+◌, ◌<◌, ◌≤◌, zero, suc, List, [], ◌∷◌, ◌++◌, Some, length, take, get_or, max, slice_get, codes, decimal}
use Rattle.std.proofs.Common.{refl, ap, subst, ◌∙◌, arith}
use Rattle.std.specs.Fmt.{digits}
use Rattle.pam_codes.specs.Code.{code_names}
use Rattle.pam_page.proofs.LineParts.{code_name-is}
use Rattle.pam_page.specs.inner.KeptSteps.{number_len}
use Rattle.pam_page.specs.Page.{code_name}
use Rattle.pam_page.specs.declared.code_texts.TheConstants.{NAMES, NUMBERS}

same_head : {A : Type 0} (x y : A) (xs ys : List A) → (x ∷ xs) ≡ (y ∷ ys) → x ≡ y
same_head x y xs ys e = cc

same_rest : {A : Type 0} (x y : A) (xs ys : List A) → (x ∷ xs) ≡ (y ∷ ys) → xs ≡ ys
same_rest x y xs ys e = cc

-- ---- names

-- the first bytes of each row, as many as the name has
fronts : List (List ℕ) → List (List ℕ) → List (List ℕ)
fronts [] rows = []
fronts (name ∷ names) [] = []
fronts (name ∷ names) (row ∷ rows) = take (length name) row ∷ fronts names rows

row_name : (names rows : List (List ℕ)) (i : ℕ) (name other : List ℕ) → fronts names rows ≡ names → slice_get names i ≡ Some name
    → take (length name) (get_or rows i other) ≡ name
unfolding fronts
row_name [] rows i name other e f = cc
row_name (n ∷ names) [] i name other e f = cc
row_name (n ∷ names) (row ∷ rows) zero name other e f =
    let same : n ≡ name = cc in
    let front = same_head (take (length n) row) n (fronts names rows) names e in
    subst (λ (m : List ℕ). take (length m) row ≡ m) same front
row_name (n ∷ names) (row ∷ rows) (suc i) name other e f =
    row_name names rows i name other (same_rest (take (length n) row) n (fronts names rows) names e) f

all_names : fronts code_names NAMES ≡ code_names
unfolding code_names fronts
all_names = refl

pub name_front : (code at : ℕ) (name other : List ℕ) → slice_get code_names code ≡ Some name → at ≡ code
    → take (length name) (get_or NAMES at other) ≡ code_name code
name_front code at name other found same =
    ap (λ (i : ℕ). take (length name) (get_or NAMES i other)) same ∙ row_name code_names NAMES code name other all_names found ∙ code_name-is code name found

-- no name is longer than a row
longest : List (List ℕ) → ℕ
longest [] = 0
longest (name ∷ names) = max (length name) (longest names)

no_longer : (names : List (List ℕ)) (i : ℕ) (name : List ℕ) → slice_get names i ≡ Some name → length name ≤ longest names
unfolding longest
no_longer [] i name found = cc
no_longer (n ∷ names) zero name found =
    let same : n ≡ name = cc in
    omega (arith, ap length same)
no_longer (n ∷ names) (suc i) name found = omega (arith, no_longer names i name found)

longest_name : longest code_names ≡ 21
unfolding code_names longest
longest_name = refl

pub name_len : (code : ℕ) (name : List ℕ) → slice_get code_names code ≡ Some name → length name ≤ 24
name_len code name found = omega (arith, no_longer code_names code name found, longest_name)

-- ---- numbers

numbered : ℕ → List (List ℕ) → List (List ℕ)
numbered first [] = []
numbered first (row ∷ rows) = take (number_len first) row ∷ numbered (first + 1) rows

dotted : ℕ → List (List ℕ) → List (List ℕ)
dotted first [] = []
dotted first (row ∷ rows) = (codes "." ++ decimal first) ∷ dotted (first + 1) rows

row_number : (rows : List (List ℕ)) (first i : ℕ) (other : List ℕ) → numbered first rows ≡ dotted first rows → i < length rows
    → take (number_len (first + i)) (get_or rows i other) ≡ codes "." ++ decimal (first + i)
unfolding numbered dotted
row_number [] first i other e inside = absurd (omega (arith, inside))
row_number (row ∷ rows) first zero other e inside =
    let front = same_head (take (number_len first) row) (codes "." ++ decimal first) (numbered (first + 1) rows) (dotted (first + 1) rows) e in
    let same : first ≡ first + 0 = omega arith in
    subst (λ (n : ℕ). take (number_len n) row ≡ codes "." ++ decimal n) same front
row_number (row ∷ rows) first (suc i) other e inside =
    let rest = same_rest (take (number_len first) row) (codes "." ++ decimal first) (numbered (first + 1) rows) (dotted (first + 1) rows) e in
    let same : first + 1 + i ≡ first + suc i = omega arith in
    subst (λ (n : ℕ). take (number_len n) (get_or rows i other) ≡ codes "." ++ decimal n) same
    (row_number rows (first + 1) i other rest (omega (arith, inside)))

all_numbers : numbered 0 NUMBERS ≡ dotted 0 NUMBERS
unfolding digits numbered dotted
all_numbers = refl

pub number_front : (code at number count : ℕ) (other : List ℕ) → code < 31 → number ≡ code → at ≡ number → count ≡ number_len number
    → take count (get_or NUMBERS at other) ≡ codes "." ++ decimal code
number_front code at number count other small is_number is_at is_count =
    let same : at ≡ code = is_at ∙ is_number in
    let none : 0 + code ≡ code = omega arith in
    let from_none = subst (λ (n : ℕ). take (number_len n) (get_or NUMBERS code other) ≡ codes "." ++ decimal n) none
    (row_number NUMBERS 0 code other all_numbers small) in
    ap (λ (n : ℕ). take n (get_or NUMBERS at other)) (is_count ∙ ap number_len is_number)
    ∙ ap (λ (i : ℕ). take (number_len code) (get_or NUMBERS i other)) same
    ∙ from_none
