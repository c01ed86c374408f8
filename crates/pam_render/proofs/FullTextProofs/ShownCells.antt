-- What is shown of each cell: its columns are its characters, and none of its bytes is a control.
use Rattle.std.proofs.Common.{◌≡◌, ◌∙◌, ℕ, zero, suc, ◌+◌, ◌-◌, ◌/◌, ◌%◌, ◌<◌, ◌≤◌, ◌==◌, ◌&&◌, ◌||◌, nat_le, nat_lt, Bool, true, false, List, []}
use Rattle.std.proofs.Common.{◌∷◌, ◌++◌, ap, ap₂}
use Rattle.std.proofs.Common.{arith, not, refl, take}
use Rattle.std.proofs.lemmas.Bool.{and_from, and_parts, cond_both, false≢true, le-ltb, leb-true, lt-leb, ltb-true}
use Rattle.std.specs.List.{list_all}
use Rattle.std.specs.Prelude.{if◌then◌else◌, slice_index_or}
use Rattle.pam_text.proofs.TextSteps.{unequal}
use Rattle.pam_render.specs.full_text.Cells.{Cell, Numbered, Seen, Tab, byte_cell, cell_text, cells, cells_text, columns, first_cell, first_within, four_bytes}
use Rattle.pam_render.specs.full_text.Cells.{is_of_four, is_of_one, is_of_three, is_of_two, last_within, seen_len, width}
use Rattle.pam_render.specs.full_text.Laws.{AreBytes, characters, is_control}
use Rattle.pam_render.specs.sentences.Shown.{continues, is_between, is_hidden, three_bytes, two_bytes}

-- of each element, one after another
abbrev pub Each : {A : Type 0} → (A → Type 0) → List A → Type 0
Each P [] = Unit {0}
Each P (x ∷ xs) = P x × Each P xs

pub each-append : {A : Type 0} (P : A → Type 0) (xs ys : List A) → Each P xs → Each P ys → Each P (xs ++ ys)
each-append P [] ys h k = k
each-append P (x ∷ xs) ys h k = (h.0, each-append P xs ys h.1 k)

-- BYTES

abbrev pub Clean : ℕ → Type 0
Clean byte = is_control byte ≡ false

-- how many characters a byte is
abbrev count : Bool → ℕ
count continued = if continued then 0 else 1

and-false : (x : Bool) → (x && false) ≡ false
and-false true = refl
and-false false = refl

high-clean : (byte : ℕ) → 128 ≤ byte → Clean byte
high-clean byte high =
    ap₂ {A = Bool} {B = Bool} {C = Bool} (λ x y. x || y) (le-ltb byte 32 (omega (arith, high))) (unequal byte 127 (λ q. omega (arith, high, q)))

low-clean : (byte : ℕ) → 32 ≤ byte → byte < 127 → Clean byte
low-clean byte shown low =
    ap₂ {A = Bool} {B = Bool} {C = Bool} (λ x y. x || y) (le-ltb byte 32 shown) (unequal byte 127 (λ q. omega (arith, low, q)))

low-alone : (byte : ℕ) → byte < 128 → continues byte ≡ false
low-alone byte low = ap (λ (x : Bool). x && nat_lt byte 192) (lt-leb 128 byte low)

lead-alone : (byte : ℕ) → 192 ≤ byte → continues byte ≡ false
lead-alone byte lead = ap (λ (x : Bool). nat_le 128 byte && x) (le-ltb byte 192 lead) ∙ and-false (nat_le 128 byte)

-- a byte that continues a character
Next : ℕ → Type 0
Next byte = continues byte ≡ true

next-clean : (byte : ℕ) → Next byte → Clean byte
unfolding Next
next-clean byte h = high-clean byte (leb-true 128 byte (and_parts (nat_le 128 byte) (nat_lt byte 192) h).0)

no-next : (X : Type 0) → Next 0 → X
unfolding Next
no-next X h = absurd (false≢true h)

-- CHARACTERS of two, three and four bytes

guarded : (least : ℕ) (guard : Bool) (character : ℕ) → 0 < least → nat_le least (if guard then character else 0) ≡ true → guard ≡ true
guarded least true character some h = refl
guarded least false character some h = let none : least ≤ 0 = leb-true least 0 h in absurd (omega (arith, some, none))

lead-at : (least most byte : ℕ) → 192 ≤ least → (nat_le least byte && nat_lt byte most) ≡ true → 192 ≤ byte
lead-at least most byte low h =
    let high = leb-true least byte (and_parts (nat_le least byte) (nat_lt byte most) h).0 in omega (arith, low, high)

two-is : (a b : ℕ) → is_of_two (two_bytes a b) ≡ true → (192 ≤ a) × Next b
unfolding Next
two-is a b h =
    let big = (and_parts (nat_le 128 (two_bytes a b)) (not (is_hidden (two_bytes a b))) h).0 in
    let first = nat_le 192 a && nat_lt a 224 in
    let parts = and_parts first (continues b) (guarded 128 (first && continues b) _ (omega arith) big) in
    (lead-at 192 224 a (omega arith) parts.0, parts.1)

three-is : (a b c : ℕ) → is_of_three (three_bytes a b c) ≡ true → (192 ≤ a) × Next b × Next c
unfolding Next
three-is a b c h =
    let x = three_bytes a b c in
    let whole = not (is_between 55296 57343 x) in
    let big = (and_parts (nat_le 2048 x) whole (and_parts (nat_le 2048 x && whole) (not (is_hidden x)) h).0).0 in
    let first = nat_le 224 a && nat_lt a 240 in
    let last = and_parts (first && continues b) (continues c) (guarded 2048 (first && continues b && continues c) _ (omega arith) big) in
    let parts = and_parts first (continues b) last.0 in
    (lead-at 224 240 a (omega arith) parts.0, parts.1, last.1)

four-is : (a b c d : ℕ) → is_of_four (four_bytes a b c d) ≡ true → (192 ≤ a) × Next b × Next c × Next d
unfolding Next
four-is a b c d h =
    let x = four_bytes a b c d in
    let big = (and_parts (nat_le 65536 x) (nat_le x 1114111) h).0 in
    let first = nat_le 240 a && nat_lt a 248 in
    let last = and_parts (first && continues b && continues c) (continues d)
    (guarded 65536 (first && continues b && continues c && continues d) _ (omega arith) big) in
    let third = and_parts (first && continues b) (continues c) last.0 in
    let parts = and_parts first (continues b) third.0 in
    (lead-at 240 248 a (omega arith) parts.0, parts.1, third.1, last.1)

-- CELLS

-- one character, and no control
Whole : List ℕ → Type 0
Whole bytes = (characters bytes ≡ 1) × Each Clean bytes

whole-one : (a : ℕ) (rest : List ℕ) → is_of_one a ≡ true → Whole (take 1 (a ∷ rest))
unfolding Whole characters
whole-one a rest h =
    let ends = and_parts (nat_le 32 a) (nat_le a 126) h in
    let least = leb-true 32 a ends.0 in
    let most = leb-true a 126 ends.1 in
    (ap (λ (x : Bool). count x + 0) (low-alone a (omega (arith, most))), (low-clean a least (omega (arith, most)), tt))

whole-two : (a : ℕ) (rest : List ℕ) → is_of_two (two_bytes a (slice_index_or (a ∷ rest) 1 0)) ≡ true → Whole (take 2 (a ∷ rest))
unfolding Whole characters Next
whole-two a [] h = no-next _ (two-is a 0 h).1
whole-two a (b ∷ rest) h =
    let p = two-is a b h in
    (rw (lead-alone a p.0, p.1) refl, (high-clean a (omega (arith, p.0)), (next-clean b p.1, tt)))

whole-three : (a : ℕ) (rest : List ℕ) → is_of_three (three_bytes a (slice_index_or (a ∷ rest) 1 0) (slice_index_or (a ∷ rest) 2 0)) ≡ true
    → Whole (take 3 (a ∷ rest))
unfolding Whole characters Next
whole-three a [] h = no-next _ (three-is a 0 0 h).1
whole-three a (b ∷ []) h = no-next _ (three-is a b 0 h).2
whole-three a (b ∷ c ∷ rest) h =
    let p = three-is a b c h in
    (rw (lead-alone a p.0, p.1, p.2) refl, (high-clean a (omega (arith, p.0)), (next-clean b p.1, (next-clean c p.2, tt))))

whole-four : (a : ℕ) (rest : List ℕ)
    → is_of_four (four_bytes a (slice_index_or (a ∷ rest) 1 0) (slice_index_or (a ∷ rest) 2 0) (slice_index_or (a ∷ rest) 3 0)) ≡ true
    → Whole (take 4 (a ∷ rest))
unfolding Whole characters Next
whole-four a [] h = no-next _ (four-is a 0 0 0 h).1
whole-four a (b ∷ []) h = no-next _ (four-is a b 0 0 h).2
whole-four a (b ∷ c ∷ []) h = no-next _ (four-is a b c 0 h).3
whole-four a (b ∷ c ∷ d ∷ rest) h =
    let p = four-is a b c d h in
    (rw (lead-alone a p.0, p.1, p.2, p.3) refl, (high-clean a (omega (arith, p.0)), (next-clean b p.1, (next-clean c p.2, (next-clean d p.3, tt)))))

-- the bytes that are seen, where there are some
seen-whole : (a : ℕ) (rest : List ℕ) → 0 < seen_len (a ∷ rest) → Whole (take (seen_len (a ∷ rest)) (a ∷ rest))
seen-whole a rest some =
    let IsWhole : ℕ → Type 0 = λ n. 0 < n → Whole (take n (a ∷ rest)) in
    cond_both (is_of_one a) 1 _ IsWhole (λ h _. whole-one a rest h)
    (λ _. cond_both (is_of_two (two_bytes a (slice_index_or (a ∷ rest) 1 0))) 2 _ IsWhole (λ h _. whole-two a rest h)
    (λ _. cond_both (is_of_three (three_bytes a (slice_index_or (a ∷ rest) 1 0) (slice_index_or (a ∷ rest) 2 0))) 3 _ IsWhole (λ h _. whole-three a rest h)
    (λ _. cond_both (is_of_four (four_bytes a (slice_index_or (a ∷ rest) 1 0) (slice_index_or (a ∷ rest) 2 0) (slice_index_or (a ∷ rest) 3 0))) 4 0 IsWhole
    (λ h _. whole-four a rest h) (λ _ none. absurd (omega (arith, none))))))
    some

-- its columns are its characters, and no byte of it is a control
pub Well : Cell → Type 0
Well cell = (characters (cell_text cell) ≡ columns cell) × Each Clean (cell_text cell)

-- a digit
Digit : ℕ → Type 0
Digit digit = (continues digit ≡ false) × Clean digit

digit-is : (n : ℕ) → n < 16 → Digit (if nat_lt n 10 then 48 + n else 87 + n)
unfolding Digit
digit-is n low =
    cond_both (nat_lt n 10) (48 + n) (87 + n) Digit
    (λ h. let small = ltb-true n 10 h in (low-alone (48 + n) (omega (arith, small)), low-clean (48 + n) (omega arith) (omega (arith, small))))
    (λ _. (low-alone (87 + n) (omega (arith, low)), low-clean (87 + n) (omega arith) (omega (arith, low))))

byte-well : (byte : ℕ) → byte < 256 → Well (byte_cell byte)
unfolding Well characters Digit
byte-well byte small =
    let one = digit-is (byte / 16) (omega (arith, small)) in
    let two = digit-is (byte % 16) (omega (arith, small)) in
    cond_both (byte == 9) Tab (Numbered byte) Well (λ _. (refl, (refl, tt)))
    (λ _. (rw (one.0, two.0) refl, (refl, (refl, (one.1, (two.1, tt))))))

first-well : (a : ℕ) (rest : List ℕ) → a < 256 → Well (first_cell a (a ∷ rest))
unfolding Well Whole
first-well a rest small =
    cond_both (nat_lt 0 (seen_len (a ∷ rest))) (Seen (take (seen_len (a ∷ rest)) (a ∷ rest))) (byte_cell a) Well
    (λ h. seen-whole a rest (ltb-true 0 (seen_len (a ∷ rest)) h)) (λ _. byte-well a small)

bytes-parts : (a : ℕ) (rest : List ℕ) → AreBytes (a ∷ rest) → (a < 256) × AreBytes rest
bytes-parts a rest h =
    let parts = and_parts (nat_lt a 256) (list_all (λ (byte : ℕ). nat_lt byte 256) rest) h in (ltb-true a 256 parts.0, parts.1)

pub all-well : (passed : ℕ) (bytes : List ℕ) → AreBytes bytes → Each Well (cells passed bytes)
unfolding cells
all-well passed [] h = tt
all-well zero (a ∷ rest) h =
    let parts = bytes-parts a rest h in (first-well a rest parts.0, all-well (seen_len (a ∷ rest) - 1) rest parts.1)
all-well (suc passed) (a ∷ rest) h = all-well passed rest (bytes-parts a rest h).1

-- those that fit are such cells too
pub last-well : (room : ℕ) (all : List Cell) → Each Well all → Each Well (last_within room all)
unfolding last_within
last-well room [] h = tt
last-well room (cell ∷ rest) h =
    cond_both (nat_lt room (width (cell ∷ rest))) (last_within room rest) (cell ∷ rest) (Each Well) (λ _. last-well room rest h.1) (λ _. h)

pub first-well_within : (room : ℕ) (all : List Cell) → Each Well all → Each Well (first_within room all)
unfolding first_within
first-well_within room [] h = tt
first-well_within room (cell ∷ rest) h =
    cond_both (nat_lt room (columns cell)) [] (cell ∷ first_within (room - columns cell) rest) (Each Well) (λ _. tt)
    (λ _. (h.0, first-well_within (room - columns cell) rest h.1))

-- TEXTS

pub clean-all : (bytes : List ℕ) → Each Clean bytes → list_all (λ byte. not (is_control byte)) bytes ≡ true
clean-all [] h = refl
clean-all (byte ∷ rest) h =
    and_from (not (is_control byte)) (list_all (λ (b : ℕ). not (is_control b)) rest) (ap not h.0) (clean-all rest h.1)

pub characters-append : (a b : List ℕ) → characters (a ++ b) ≡ characters a + characters b
unfolding characters
characters-append [] b = omega arith
characters-append (x ∷ a) b = let rest = characters-append a b in omega (arith, rest)

pub text-columns : (all : List Cell) → Each Well all → characters (cells_text all) ≡ width all
unfolding characters width Well
text-columns [] h = refl
text-columns (cell ∷ rest) h =
    let more = text-columns rest h.1 in
    let here = h.0.0 in
    let both = characters-append (cell_text cell) (cells_text rest) in
    omega (arith, more, here, both)

pub text-clean : (all : List Cell) → Each Well all → Each Clean (cells_text all)
unfolding Well
text-clean [] h = tt
text-clean (cell ∷ rest) h = each-append Clean (cell_text cell) (cells_text rest) h.0.1 (text-clean rest h.1)
