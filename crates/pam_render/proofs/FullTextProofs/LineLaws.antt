-- What is shown of a line.
use Rattle.std.proofs.Common.{◌≡◌, ◌∙◌, ℕ, ◌+◌, ◌-◌, ◌≤◌, nat_lt, Bool, true, false, List, [], ◌∷◌, ◌++◌, ap, arith, codes, length, refl}
use Rattle.std.proofs.lemmas.Bool.{cond_both, le-ltb, leb-true, ltb-false}
use Rattle.std.specs.Prelude.{if◌then◌else◌}
use Rattle.pam_render.proofs.FullTextProofs.CellSteps.{last-fits}
use Rattle.pam_render.proofs.FullTextProofs.ShownCells.{Clean, Each, all-well, characters-append, clean-all, each-append, first-well_within}
use Rattle.pam_render.proofs.FullTextProofs.ShownCells.{last-well, text-clean, text-columns}
use Rattle.pam_render.specs.full_text.Cells.{Cell, cells, cells_text, columns, first_within, last_within, width}
use Rattle.pam_render.specs.full_text.Excerpt.{is_whole, points, room, room_after, room_before, text_after, text_before}
use Rattle.pam_render.specs.full_text.Laws.{CaretsAreBelow, LinesFit, NoControls, characters}

abbrev points_if : Bool → List ℕ
points_if cut = if cut then codes ".." else []

points-counted : (cut : Bool) → characters (points_if cut) ≡ length (points_if cut)
unfolding characters
points-counted true = refl
points-counted false = refl

points-clean : (cut : Bool) → Each Clean (points_if cut)
points-clean true = (refl, (refl, tt))
points-clean false = tt

points-few : (cut : Bool) → length (points_if cut) ≤ 2
points-few true = omega arith
points-few false = omega arith

-- the cells that are shown before the word, and from it on
abbrev shown_before : List ℕ → List ℕ → List Cell
shown_before before after = last_within (room_before before after) (cells 0 before)

abbrev shown_after : List ℕ → List ℕ → List Cell
shown_after before after = first_within (room_after before after) (cells 0 after)

pub carets-are-below : CaretsAreBelow
carets-are-below before after bytes =
    let cut = nat_lt (room_before before after) (width (cells 0 before)) in
    let shown = shown_before before after in
    let text = text-columns shown (last-well (room_before before after) (cells 0 before) (all-well 0 before bytes)) in
    let pointed = points-counted cut in
    characters-append (points_if cut) (cells_text shown) ∙ omega (arith, text, pointed)

pub no-controls : NoControls
no-controls before after bytes_before bytes_after =
    let first = text-clean (shown_before before after) (last-well (room_before before after) (cells 0 before) (all-well 0 before bytes_before)) in
    let second = text-clean (shown_after before after) (first-well_within (room_after before after) (cells 0 after) (all-well 0 after bytes_after)) in
    clean-all (text_before before after ++ text_after before after)
    (each-append Clean (text_before before after) (text_after before after)
    (each-append Clean (points (room_before before after) before) (cells_text (shown_before before after))
    (points-clean (nat_lt (room_before before after) (width (cells 0 before)))) first)
    (each-append Clean (cells_text (shown_after before after)) (points (room_after before after) after) second
    (points-clean (nat_lt (room_after before after) (width (cells 0 after))))))

-- COLUMNS

first-fits : (room : ℕ) (all : List Cell) → width (first_within room all) ≤ room
unfolding first_within width
first-fits room [] = omega arith
first-fits room (cell ∷ rest) =
    cond_both (nat_lt room (columns cell)) [] (cell ∷ first_within (room - columns cell) rest) (λ (l : List Cell). width l ≤ room) (λ _. omega arith)
    (λ over. let fits = ltb-false room (columns cell) over in let less = first-fits (room - columns cell) rest in omega (arith, fits, less))

-- the columns of a line, by whether it is shown whole
columns_by : Bool → List Cell → List Cell → ℕ
columns_by whole before after =
    let room_b : ℕ = if whole then 72 else 20 in
    let room : ℕ = if whole then 72 else 68 in
    let wide : ℕ = width (last_within room_b before) in
    length (points_if (nat_lt room_b (width before))) + wide + (width (first_within (room - wide) after)
    + length (points_if (nat_lt (room - wide) (width after))))

no-points : (room wide : ℕ) → wide ≤ room → length (points_if (nat_lt room wide)) ≡ 0
no-points room wide fits = ap (λ (cut : Bool). length (points_if cut)) (le-ltb room wide fits)

last-less : (room : ℕ) (all : List Cell) → width (last_within room all) ≤ width all
unfolding last_within width
last-less room [] = omega arith
last-less room (cell ∷ rest) =
    cond_both (nat_lt room (width (cell ∷ rest))) (last_within room rest) (cell ∷ rest) (λ (l : List Cell). width l ≤ width (cell ∷ rest))
    (λ _. let less = last-less room rest in omega (arith, less)) (λ _. omega arith)

line-fits : (whole : Bool) (before after : List Cell) → (whole ≡ true → width before + width after ≤ 72) → columns_by whole before after ≤ 72
unfolding columns_by
line-fits true before after fits =
    let all = fits refl in
    let none = no-points 72 (width before) (omega (arith, all)) in
    let less = last-less 72 before in
    let wide = width (last_within 72 before) in
    let rest : width after ≤ 72 - wide = omega (arith, all, less) in
    let nothing = no-points (72 - wide) (width after) rest in
    let shown = first-fits (72 - wide) after in
    let most = last-fits 72 before in
    omega (arith, none, nothing, shown, most)
line-fits false before after fits =
    let most = last-fits 20 before in
    let wide = width (last_within 20 before) in
    let shown = first-fits (68 - wide) after in
    let one = points-few (nat_lt 20 (width before)) in
    let two = points-few (nat_lt (68 - wide) (width after)) in
    omega (arith, most, shown, one, two)

pub lines-fit : LinesFit
unfolding columns_by
lines-fit before after bytes_before bytes_after =
    let cut_before = nat_lt (room_before before after) (width (cells 0 before)) in
    let cut_after = nat_lt (room_after before after) (width (cells 0 after)) in
    let first = shown_before before after in
    let second = shown_after before after in
    let text_first = text-columns first (last-well (room_before before after) (cells 0 before) (all-well 0 before bytes_before)) in
    let text_second = text-columns second (first-well_within (room_after before after) (cells 0 after) (all-well 0 after bytes_after)) in
    let both = characters-append (text_before before after) (text_after before after) in
    let front = characters-append (points_if cut_before) (cells_text first) in
    let back = characters-append (cells_text second) (points_if cut_after) in
    let pointed = points-counted cut_before in
    let pointed_after = points-counted cut_after in
    let fits = line-fits (is_whole before after) (cells 0 before) (cells 0 after)
    (λ whole. leb-true (width (cells 0 before) + width (cells 0 after)) 72 whole) in
    omega (arith, text_first, text_second, both, front, back, pointed, pointed_after, fits)
