-- Cells, one after another.
use Rattle.std.proofs.Common.{◌≡◌, ◌∙◌, ℕ, zero, suc, ◌+◌, ◌-◌, ◌<◌, ◌≤◌, nat_lt, Bool, List, [], ◌∷◌, ◌++◌, ap, append-nil, append_assoc, arith}
use Rattle.std.proofs.Common.{drop, refl, sym}
use Rattle.std.proofs.Common.{take}
use Rattle.std.proofs.lemmas.Bool.{cond_both, le-ltb, lt-ltb, ltb-false}
use Rattle.std.specs.Prelude.{if◌then◌else◌}
use Rattle.pam_render.specs.full_text.Cells.{Cell, Seen, byte_cell, cell_text, cells, cells_text, columns, first_within, last_within, seen_len, width}

-- bytes that belong to a cell before them are passed over
cells-passed : (passed : ℕ) (bytes : List ℕ) → cells passed bytes ≡ cells 0 (drop passed bytes)
unfolding cells
cells-passed zero bytes = refl
cells-passed (suc passed) [] = refl
cells-passed (suc passed) (byte ∷ rest) = cells-passed passed rest

drop-less : (count byte : ℕ) (rest : List ℕ) → (count ≡ 0 → ⊥) → drop (count - 1) rest ≡ drop count (byte ∷ rest)
drop-less zero byte rest some = absurd (some refl)
drop-less (suc count) byte rest some = let less : suc count - 1 ≡ count = omega arith in ap (λ (n : ℕ). drop n rest) less

-- the first cell by the number of bytes that are seen
abbrev cell_by : ℕ → List ℕ → ℕ → Cell
cell_by byte bytes seen = if nat_lt 0 seen then Seen (take seen bytes) else byte_cell byte

pub cells-none : (bytes after : List ℕ) (byte len : ℕ) → bytes ≡ byte ∷ after → len ≡ seen_len bytes → len ≡ 0
    → cells 0 bytes ≡ byte_cell byte ∷ cells 0 after
unfolding cells
cells-none bytes after byte len is seen none =
    let nothing : seen_len (byte ∷ after) ≡ 0 = sym (seen ∙ ap seen_len is) ∙ none in
    ap (cells 0) is ∙ ap (λ (n : ℕ). cell_by byte (byte ∷ after) n ∷ cells (n - 1) after) nothing

pub cells-seen : (bytes after : List ℕ) (byte len : ℕ) → bytes ≡ byte ∷ after → len ≡ seen_len bytes → (len ≡ 0 → ⊥)
    → cells 0 bytes ≡ Seen (take len bytes) ∷ cells 0 (drop len bytes)
unfolding cells
cells-seen bytes after byte len is seen some =
    let all = byte ∷ after in
    let here : seen_len all ≡ len = sym (seen ∙ ap seen_len is) in
    ap (cells 0) is ∙ ap (λ (n : ℕ). cell_by byte all n ∷ cells (n - 1) after) here
    ∙ ap (λ (b : Bool). (if b then Seen (take len all) else byte_cell byte) ∷ cells (len - 1) after) (lt-ltb 0 len (omega (arith, some)))
    ∙ ap (λ (rest : List Cell). Seen (take len all) ∷ rest) (cells-passed (len - 1) after ∙ ap (cells 0) (drop-less len byte after some))
    ∙ ap (λ (l : List ℕ). Seen (take len l) ∷ cells 0 (drop len l)) (sym is)

pub no-cells : (bytes : List ℕ) → bytes ≡ [] → cells 0 bytes ≡ []
unfolding cells
no-cells bytes none = ap (cells 0) none

-- WIDTHS

pub width-step : (all rest : List Cell) (cell : Cell) (cols : ℕ) → all ≡ cell ∷ rest → cols ≡ columns cell → cols + width rest ≡ width all
unfolding width
width-step all rest cell cols is counted = ap (λ (n : ℕ). n + width rest) counted ∙ ap width (sym is)

pub width-none : (all : List Cell) → all ≡ [] → width all ≡ 0
unfolding width
width-none all none = ap width none

-- the last cells that fit
pub last-all : (room : ℕ) (all : List Cell) → width all ≤ room → last_within room all ≡ all
unfolding last_within
last-all room [] fits = refl
last-all room (cell ∷ rest) fits =
    ap (λ (b : Bool). if b then last_within room rest else cell ∷ rest) (le-ltb room (width (cell ∷ rest)) fits)

pub last-less : (room : ℕ) (all rest : List Cell) (cell : Cell) → all ≡ cell ∷ rest → room < width all → last_within room rest ≡ last_within room all
unfolding last_within
last-less room all rest cell is over =
    sym (ap (last_within room) is
    ∙ ap (λ (b : Bool). if b then last_within room rest else cell ∷ rest) (lt-ltb room (width (cell ∷ rest)) (omega (arith, over, ap width is))))

pub last-none : (room : ℕ) (all : List Cell) → all ≡ [] → last_within room all ≡ []
unfolding last_within
last-none room all none = ap (last_within room) none

abbrev Fits : ℕ → List Cell → Type 0
Fits room all = width all ≤ room

pub last-fits : (room : ℕ) (all : List Cell) → width (last_within room all) ≤ room
unfolding last_within width
last-fits room [] = omega arith
last-fits room (cell ∷ rest) =
    cond_both (nat_lt room (width (cell ∷ rest))) (last_within room rest) (cell ∷ rest) (Fits room) (λ _. last-fits room rest)
    (λ fits. ltb-false room (width (cell ∷ rest)) fits)

-- the first cells that fit
pub first-all : (room : ℕ) (all : List Cell) → width all ≤ room → first_within room all ≡ all
unfolding first_within width
first-all room [] fits = refl
first-all room (cell ∷ rest) fits =
    ap (λ (b : Bool). if b then [] else cell ∷ first_within (room - columns cell) rest) (le-ltb room (columns cell) (omega (arith, fits)))
    ∙ ap (λ (l : List Cell). cell ∷ l) (first-all (room - columns cell) rest (omega (arith, fits)))

pub first-full : (room : ℕ) (all rest : List Cell) (cell : Cell) (cols : ℕ) → all ≡ cell ∷ rest → cols ≡ columns cell → room < cols
    → first_within room all ≡ []
unfolding first_within
first-full room all rest cell cols is counted over =
    ap (first_within room) is
    ∙ ap (λ (b : Bool). if b then [] else cell ∷ first_within (room - columns cell) rest) (lt-ltb room (columns cell) (omega (arith, over, counted)))

pub first-step : (room next : ℕ) (all rest : List Cell) (cell : Cell) (cols : ℕ) → all ≡ cell ∷ rest → cols ≡ columns cell → cols ≤ room
    → next ≡ room - cols → first_within room all ≡ cell ∷ first_within next rest
unfolding first_within
first-step room next all rest cell cols is counted fits less =
    let same : room - columns cell ≡ next = omega (arith, counted, less) in
    ap (first_within room) is
    ∙ ap (λ (b : Bool). if b then [] else cell ∷ first_within (room - columns cell) rest) (le-ltb room (columns cell) (omega (arith, fits, counted)))
    ∙ ap (λ (n : ℕ). cell ∷ first_within n rest) same

pub first-none : (room : ℕ) (all : List Cell) → all ≡ [] → first_within room all ≡ []
unfolding first_within
first-none room all none = ap (first_within room) none

-- TEXTS

-- one more cell is written
pub text-more : (room next : ℕ) (written text : List ℕ) (all rest : List Cell) (cell : Cell) (cols : ℕ) → all ≡ cell ∷ rest → cols ≡ columns cell
    → cols ≤ room → next ≡ room - cols → written ++ cells_text (first_within room all) ≡ text
    → (written ++ cell_text cell) ++ cells_text (first_within next rest) ≡ text
text-more room next written text all rest cell cols is counted fits less before =
    append_assoc written (cell_text cell) (cells_text (first_within next rest))
    ∙ ap (λ (shown : List Cell). written ++ cells_text shown) (sym (first-step room next all rest cell cols is counted fits less)) ∙ before

-- no more fits
pub text-done : (written text : List ℕ) (shown : List Cell) → shown ≡ [] → written ++ cells_text shown ≡ text → written ≡ text
text-done written text shown none before = sym (append-nil written) ∙ ap (λ (l : List Cell). written ++ cells_text l) (sym none) ∙ before
