-- The names of a control, as the code reads them.
use Rattle.std.proofs.Common.{◌≡◌, ◌<◌, ◌+◌, ◌-◌, ◌∙◌, ◌&&◌, ◌==◌, ℕ, suc, Bool, true, false, List, [], ◌∷◌, length}
use Rattle.std.proofs.Common.{cond, nat_lt, ap, sym, refl, Option, Some, None, arith, drop, find}
use Rattle.std.specs.List.{range_with_len, slice_get, starts_with}
use Rattle.std.proofs.lemmas.Bool.{lt-ltb}
use Rattle.std.proofs.lemmas.Option.{get_or_from_slice_get}
use Rattle.pam_codes.specs.Code.{all_codes, code_names}
use Rattle.pam_released.specs.Control.{after_spaces, begins, is_space, name_of}
use Rattle.pam_released.specs.inner.Pair.{code_after}

-- BLANKS

pub space_dropped : (b : ℕ) (bs : List ℕ) → is_space b ≡ true → after_spaces (b ∷ bs) ≡ after_spaces bs
space_dropped b bs h = ap (λ (t : Bool). cond t (after_spaces bs) (b ∷ bs)) h

pub space_ends : (b : ℕ) (bs : List ℕ) → is_space b ≡ false → after_spaces (b ∷ bs) ≡ b ∷ bs
space_ends b bs h = ap (λ (t : Bool). cond t (after_spaces bs) (b ∷ bs)) h

-- NAMES

pub begins_as : (name text : List ℕ) → begins name text ≡ starts_with ◌==◌ text name
begins_as [] [] = refl
begins_as [] (b ∷ text) = refl
begins_as (n ∷ name) [] = refl
begins_as (n ∷ name) (b ∷ text) = ap (λ (v : Bool). n == b && v) (begins_as name text)

next_code : (p : ℕ → Bool) (n : ℕ) → n < 31 → find p (range_with_len n (31 - n)) ≡ cond (p n) (Some n) (find p (range_with_len (n + 1) (31 - (n + 1))))
next_code p n h =
    let left : 31 - n ≡ suc (31 - (n + 1)) = omega (arith, h) in
    ap (λ (k : ℕ). find p (range_with_len n k)) left

pub code_passed : (p : ℕ → Bool) (n : ℕ) (whole : Option ℕ) → n < 31 → p n ≡ false → find p (range_with_len n (31 - n)) ≡ whole →
    find p (range_with_len (n + 1) (31 - (n + 1))) ≡ whole
code_passed p n whole low misses h =
    sym (next_code p n low ∙ ap (λ (t : Bool). cond t (Some n) (find p (range_with_len (n + 1) (31 - (n + 1))))) misses) ∙ h

pub first_codes : (p : ℕ → Bool) → find p (range_with_len 0 (31 - 0)) ≡ find p all_codes
unfolding all_codes
first_codes p = refl

abbrev pub begins_text : List ℕ → ℕ → Bool
begins_text text code = begins (name_of code) text

abbrev pub code_if : List ℕ → ℕ → Bool → Option (ℕ × List ℕ)
code_if text code begun = cond begun (Some (code, drop (length (name_of code)) text)) None

pub not_here : (text : List ℕ) (n : ℕ) (whole : Option ℕ) → n < 31 → None ≡ code_after text n →
    find (begins_text text) (range_with_len n (31 - n)) ≡ whole → find (begins_text text) (range_with_len (n + 1) (31 - (n + 1))) ≡ whole
not_here text n whole low is h =
    elim (begins (name_of n) text) as (λ (t : Bool). begins (name_of n) text ≡ t →
    None ≡ code_if text n t →
    find (begins_text text) (range_with_len (n + 1) (31 - (n + 1))) ≡ whole) [
      | true ↦ λ e f. absurd (cc)
      | false ↦ λ e f. code_passed (begins_text text) n whole low e h
    ] refl is

-- the code with a number, and its name

abbrev pub code_with : ℕ → Option ℕ
code_with n = cond (nat_lt n 31) (Some n) None

is_code : (n : ℕ) → n < 31 → code_with n ≡ Some n
is_code n low = ap (λ (t : Bool). cond t (Some n) None) (lt-ltb n 31 low)

pub always_code : (n : ℕ) → n < 31 → None ≡ code_with n → ⊥
always_code n low h = let both : None ≡ Some n = h ∙ is_code n low in absurd (cc)

same_code : (n code : ℕ) → n < 31 → Some code ≡ code_with n → code ≡ n
same_code n code low h = let both : Some code ≡ Some n = h ∙ is_code n low in cc

named_so : (n code : ℕ) (name bytes : List ℕ) → code ≡ n → slice_get code_names code ≡ Some name → bytes ≡ name → name_of n ≡ bytes
named_so n code name bytes same got is = ap name_of (sym same) ∙ get_or_from_slice_get code_names code name [] got ∙ sym is

pub code_is : (text rest name bytes : List ℕ) (n code : ℕ) → n < 31 → Some code ≡ code_with n → slice_get code_names code ≡ Some name → bytes ≡ name →
    begins bytes text ≡ true → rest ≡ drop (length bytes) text → Some (code, rest) ≡ code_after text n
code_is text rest name bytes n code low new got is begun after =
    let same : code ≡ n = same_code n code low new in
    let named : name_of n ≡ bytes = named_so n code name bytes same got is in
    ap (λ (k : ℕ). Some (k, rest)) same
    ∙ ap (λ (r : List ℕ). Some (n, r)) (after ∙ ap (λ (m : List ℕ). drop (length m) text) (sym named))
    ∙ sym (ap (code_if text n) (ap (λ (m : List ℕ). begins m text) named ∙ begun))

pub code_missed : (text name bytes : List ℕ) (n code : ℕ) → n < 31 → Some code ≡ code_with n → slice_get code_names code ≡ Some name → bytes ≡ name →
    begins bytes text ≡ false → None ≡ code_after text n
code_missed text name bytes n code low new got is missed =
    sym (ap (code_if text n)
    (ap (λ (m : List ℕ). begins m text) (named_so n code name bytes (same_code n code low new) got is) ∙ missed))
