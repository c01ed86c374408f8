-- The text of a cursor, its codes, and its parts between dots.
use Rattle.std.proofs.Common.{◌≡◌, ◌≢◌, ℕ, ◌+◌, ◌%◌, ◌^◌, ◌<◌, ◌≤◌, Bool, false, eqb, codes, decimal, refl, sym, ap, ◌∙◌, arith, lit<}
use Rattle.std.proofs.Common.{All, List, [], ◌∷◌, ◌++◌, append-nil, get_or, length, map}
use Rattle.std.proofs.lemmas.Bool.{ne_eqb}
use Rattle.std.proofs.lemmas.Fmt.{decimal_by_steps, decimal_injective}
use Rattle.std.proofs.lemmas.List.{get_or-map, length-map}
use Rattle.std.proofs.lemmas.List.Elements.{All-cons, All-head, All-nil, All-push, All-same, All-tail, All-weaker}
use Rattle.std.proofs.lemmas.List.Splits.{join_with_byte-slice_split, length-slice_split, slice_split_at, slice_split_none}
use Rattle.std.specs.List.{join_with_byte, slice_split}
use Rattle.pam_conf.specs.declared.stack.TheConstants.{MAX_MODULES}
use Rattle.pam_paths.specs.CursorText.{IsCursor, cursor_text}
use Rattle.pam_paths.specs.Laws.{CursorTextIsOne}

-- the byte at which a text is split
abbrev pub is_dot : ℕ → Bool
is_dot b = eqb b 46

abbrev pub AreCodes : List ℕ → Type 0
AreCodes = All (λ code. code < 31)

-- THE BYTES OF A NUMBER

from_zero : (n : ℕ) → n < 2 ^ 64 → All (λ b. 48 ≤ b) (decimal n)
from_zero = decimal_by_steps (λ n digits. All (λ b. 48 ≤ b) digits)
    (λ n small. All-cons (λ b. 48 ≤ b) (48 + n) [] (omega arith) (All-nil (λ b. 48 ≤ b)))
    (λ n digits large before. All-push (λ b. 48 ≤ b) digits (48 + n % 10) before (omega arith))

no_dots : (code : ℕ) → code < 31 → All (λ b. is_dot b ≡ false) (decimal code)
no_dots code h =
    All-weaker (λ b. 48 ≤ b) (λ b. is_dot b ≡ false) (λ b from. ne_eqb b 46 (λ same. omega arith)) (decimal code)
    (from_zero code (omega arith))

no_dash : (code : ℕ) → code < 31 → codes "-" ≢ decimal code
no_dash code h same =
    let from : All (λ b. 48 ≤ b) (codes "-") = All-same (λ b. 48 ≤ b) (codes "-") (decimal code) same (from_zero code (omega arith)) in
    let dash : 48 ≤ 45 = from 0 0 (lit< tt) in
    omega arith

-- THE PARTS OF A TEXT

-- the parts of a cursor's text are its numbers
parts_of_text : (code : ℕ) (more : List ℕ) → AreCodes (code ∷ more) → slice_split is_dot (cursor_text (code ∷ more)) ≡ map decimal (code ∷ more)
parts_of_text code [] h =
    ap (slice_split is_dot) (append-nil (decimal code))
    ∙ slice_split_none is_dot (decimal code) (no_dots code (All-head (λ c. c < 31) code [] h))
parts_of_text code (next ∷ more) h =
    slice_split_at is_dot (decimal code) 46 (cursor_text (next ∷ more)) (no_dots code (All-head (λ c. c < 31) code (next ∷ more) h)) refl
    ∙ ap (λ parts. decimal code ∷ parts) (parts_of_text next more (All-tail (λ c. c < 31) code (next ∷ more) h))

joined : (code : ℕ) (more : List ℕ) → join_with_byte 46 (map decimal (code ∷ more)) ≡ cursor_text (code ∷ more)
joined code [] = sym (append-nil (decimal code))
joined code (next ∷ more) = ap (λ text. decimal code ++ 46 ∷ text) (joined next more)

-- a text whose parts are the numbers is the cursor's
pub text_of_parts : (cursor text : List ℕ) → map decimal cursor ≡ slice_split is_dot text → cursor_text cursor ≡ text
text_of_parts [] text same =
    let lengths : length (map decimal []) ≡ length (slice_split is_dot text) = ap length same in
    absurd (omega (arith, length-slice_split is_dot text))
text_of_parts (code ∷ more) text same = sym (joined code more) ∙ ap (join_with_byte 46) same ∙ join_with_byte-slice_split 46 text

-- the parts of a text other than `-` are the numbers of the cursor that it spells
parts_are : (cursor text : List ℕ) → IsCursor cursor → text ≢ codes "-" → cursor_text cursor ≡ text → map decimal cursor ≡ slice_split is_dot text
parts_are [] text valid other same = absurd (other (sym same))
parts_are (code ∷ more) text valid other same = sym (parts_of_text code more valid.are_codes) ∙ ap (slice_split is_dot) same

-- TEXTS THAT ARE NOT CURSORS

-- a text with a part that is not the number of a code
pub no_cursor-part : (text : List ℕ) (i : ℕ) (part : List ℕ) → text ≢ codes "-" → i < length (slice_split is_dot text)
    → part ≡ get_or (slice_split is_dot text) i part → ((code : ℕ) → code < 31 → decimal code ≢ part)
    → (cursor : List ℕ) → IsCursor cursor → cursor_text cursor ≢ text
no_cursor-part text i part other inside is none cursor valid same =
    let parts = parts_are cursor text valid other same in
    let room : i < length cursor = omega (arith, ap length parts, length-map cursor decimal) in
    none (get_or cursor i 0) (valid.are_codes i 0 room)
    (sym (get_or-map decimal cursor i 0 part room) ∙ ap (λ (xs : List (List ℕ)). get_or xs i part) parts ∙ sym is)

-- a text with a part after those of a full cursor
pub no_cursor-full : (text : List ℕ) (full : List ℕ) (before : List (List ℕ)) (i : ℕ) → text ≢ codes "-" → i < length (slice_split is_dot text)
    → map decimal full ≡ before → length before ≡ i → length full ≡ MAX_MODULES
    → (cursor : List ℕ) → IsCursor cursor → cursor_text cursor ≢ text
no_cursor-full text full before i other more numbers count full_len cursor valid same =
    let parts = ap length (parts_are cursor text valid other same) in
    let so_far = ap length numbers in
    omega (arith, valid.few, parts, so_far, length-map cursor decimal, length-map full decimal)

-- THE LAW

same_numbers : (xs ys : List ℕ) → AreCodes xs → AreCodes ys → map decimal xs ≡ map decimal ys → xs ≡ ys
same_numbers [] [] h k same = refl
same_numbers [] (y ∷ ys) h k same = cc
same_numbers (x ∷ xs) [] h k same = cc
same_numbers (x ∷ xs) (y ∷ ys) h k same =
    let small : x < 31 = All-head (λ c. c < 31) x xs h in
    let little : y < 31 = All-head (λ c. c < 31) y ys k in
    let first : x ≡ y = decimal_injective x y (omega arith) (omega arith) (cc) in
    let rest : xs ≡ ys = same_numbers xs ys (All-tail (λ c. c < 31) x xs h) (All-tail (λ c. c < 31) y ys k) (cc) in
    cc

dash_is_own : (y : ℕ) (ys : List ℕ) → AreCodes (y ∷ ys) → codes "-" ≢ cursor_text (y ∷ ys)
dash_is_own y ys h same =
    let parts : codes "-" ∷ [] ≡ map decimal (y ∷ ys) = ap (slice_split is_dot) same ∙ parts_of_text y ys h in
    no_dash y (All-head (λ c. c < 31) y ys h) (cc)

pub text_is_one : CursorTextIsOne
text_is_one [] [] h k same = refl
text_is_one [] (y ∷ ys) h k same = absurd (dash_is_own y ys k.are_codes same)
text_is_one (x ∷ xs) [] h k same = absurd (dash_is_own x xs h.are_codes (sym same))
text_is_one (x ∷ xs) (y ∷ ys) h k same =
    same_numbers (x ∷ xs) (y ∷ ys) h.are_codes k.are_codes
    (sym (parts_of_text x xs h.are_codes) ∙ ap (slice_split is_dot) same ∙ parts_of_text y ys k.are_codes)
