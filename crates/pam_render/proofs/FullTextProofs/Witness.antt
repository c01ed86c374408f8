-- The rows of a way in, and the widths of their columns.
use Rattle.std.proofs.Common.{◌≡◌, ◌∙◌, ℕ, ◌+◌, ◌<◌, List, [], ◌∷◌, ◌++◌, ap, arith, get_or, length, map, max, refl, take}
use Rattle.std.proofs.lemmas.List.{map-append, take_more}
use Rattle.std.specs.List.{flat_map}
use Rattle.pam_findings.specs.declared.host.way_in.Answered.{Answered}
use Rattle.pam_findings.specs.declared.host.way_in.WayIn.{WayIn}
use Rattle.pam_render.specs.full_text.Witness.{Row, name_width, number_width, place_width, row_line, row_of, row_text, rows_of, widest}
use Rattle.pam_render.specs.full_text.inner.Witness.{AreWidths, row_within}
use Rattle.pam_render.specs.declared.full_text.witness.Widths.{Widths}

widest-push : (width : Row → ℕ) (rows : List Row) (row : Row) → widest width (rows ++ row ∷ []) ≡ max (widest width rows) (width row)
unfolding widest
widest-push width [] row = omega arith
widest-push width (first ∷ rows) row = omega (arith, widest-push width rows row)

-- one more row
pub widest-more : {A : Type 0} (width : Row → ℕ) (seen : A → Row) (xs : List A) (i : ℕ) (d : A) → i < length xs
    → max (widest width (map seen (take i xs))) (width (seen (get_or xs i d))) ≡ widest width (map seen (take (i + 1) xs))
widest-more width seen xs i d h =
    let more : map seen (take (i + 1) xs) ≡ map seen (take i xs) ++ seen (get_or xs i d) ∷ [] =
    ap (map seen) (take_more xs i d h) ∙ map-append seen (take i xs) (get_or xs i d ∷ []) in
    rw more (rw (widest-push width (map seen (take i xs)) (seen (get_or xs i d))) refl)

-- a line with the widths of a table
pub within-is : (rows : List Row) (widths : Widths) → AreWidths rows widths → (row : Row) → row_within widths row ≡ row_text rows row
within-is rows widths are row =
    ap (λ (n : ℕ). row_line n widths.place widths.name row) are.number
    ∙ ap (λ (n : ℕ). row_line (widest number_width rows) n widths.name row) are.place
    ∙ ap (λ (n : ℕ). row_line (widest number_width rows) (widest place_width rows) n row) are.name

lines-are : {A : Type 0} (one other : Row → List ℕ) (seen : A → Row) (xs : List A) → ((row : Row) → one row ≡ other row)
    → flat_map (λ x. one (seen x)) xs ≡ flat_map other (map seen xs)
lines-are one other seen [] same = refl
lines-are one other seen (x ∷ xs) same =
    ap (λ (l : List ℕ). l ++ flat_map (λ y. one (seen y)) xs) (same (seen x)) ∙ ap (λ (l : List ℕ). other (seen x) ++ l) (lines-are one other seen xs same)

-- the lines of a way in, with the widths of their columns
pub rows-are : (paths : List (List ℕ)) (way : WayIn) (answers : List Answered) (widths : Widths) → answers ≡ way.answers.items
    → AreWidths (map (row_of paths way.stack) answers) widths
    → flat_map (λ answer. row_within widths (row_of paths way.stack answer)) answers ≡ flat_map (row_text (rows_of paths way)) (rows_of paths way)
rows-are paths way answers widths e are =
    let seen = row_of paths way.stack in
    lines-are (row_within widths) (row_text (map seen answers)) seen answers (within-is (map seen answers) widths are)
    ∙ ap (λ (all : List Answered). flat_map (row_text (map seen all)) (map seen all)) e

pub no_widths : AreWidths [] (record { number = 0; place = 0; name = 0 })
unfolding widest
no_widths = record { number = refl; place = refl; name = refl }
