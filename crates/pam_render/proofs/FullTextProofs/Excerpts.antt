-- The lines of an excerpt, part by part.
use Rattle.std.proofs.Common.{◌≡◌, ◌∙◌, ◌==◌, ℕ, true, false, List, [], ◌∷◌, ◌++◌, Option, ap, ap₂, append_assoc, arith, codes, eqb-true, length, refl, sym}
use Rattle.std.proofs.lemmas.Bool.{false≢true}
use Rattle.std.specs.Prelude.{decimal, replicate}
use Rattle.pam_findings.specs.declared.misspelled.spot.Spot.{Spot}
use Rattle.pam_render.proofs.FullTextProofs.CellSteps.{first-all, last-fits}
use Rattle.pam_render.specs.full_text.Cells.{Cell, cells, cells_text, first_within, last_within}
use Rattle.pam_render.specs.full_text.Excerpt.{carets_if_any, excerpt, line_lines, lines_of, near_after, near_before, points, room_after, room_before, start_of}

-- two parts, each of two
join : (a b c d e : List ℕ) → a ++ (b ++ (c ++ (d ++ e))) ≡ (a ++ b) ++ ((c ++ d) ++ e)
join a b c d e = sym (append_assoc a b (c ++ (d ++ e))) ∙ ap (λ (l : List ℕ). (a ++ b) ++ l) (sym (append_assoc c d e))

-- what is shown before a word fits there
shown-fits : (room : ℕ) (shown all : List Cell) (other : ℕ) → other ≡ room → shown ≡ last_within room all → first_within other shown ≡ last_within room all
shown-fits room shown all other same are =
    ap₂ {A = ℕ} {B = List Cell} {C = List Cell} first_within same are ∙ first-all room (last_within room all) (last-fits room all)

pub line-is : (number digits : ℕ) (before after points_b shown_b from points_a : List ℕ) (room_b room_a : ℕ) → digits ≡ length (decimal number)
    → points_b ≡ points (room_before before after) before → room_b ≡ room_before before after
    → cells 0 shown_b ≡ last_within (room_before before after) (cells 0 before) → room_a ≡ room_after before after → from ≡ after
    → points_a ≡ points (room_after before after) after
    → replicate digits 32 ++ (codes " |\n" ++ (decimal number ++ (codes " | " ++ (points_b
    ++ (cells_text (first_within room_b (cells 0 shown_b)) ++ (cells_text (first_within room_a (cells 0 from)) ++ (points_a ++ (codes "\n" ++ []))))))))
    ≡ line_lines number before after
line-is number digits before after points_b shown_b from points_a room_b room_a d pb rb sb ra f pa =
    let fits = shown-fits (room_before before after) (cells 0 shown_b) (cells 0 before) room_b rb sb in
    let shown_a = cells_text (first_within (room_after before after) (cells 0 after)) in
    rw (d, pb, fits, ra, f, pa)
    (ap (λ (l : List ℕ). replicate (length (decimal number)) 32 ++ (codes " |\n" ++ (decimal number ++ (codes " | " ++ l))))
    (join (points (room_before before after) before) (cells_text (last_within (room_before before after) (cells 0 before))) shown_a
    (points (room_after before after) after) (codes "\n" ++ [])))

-- nothing where no byte is left
pub excerpt-none : (number : ℕ) (bytes : List ℕ) (spot : Option Spot) → (length bytes == 0) ≡ true → [] ≡ excerpt number bytes spot
unfolding excerpt
excerpt-none number [] spot none = refl
excerpt-none number (byte ∷ bytes) spot none = let none : length (byte ∷ bytes) ≡ 0 = eqb-true (length (byte ∷ bytes)) 0 none in absurd (omega (arith, none))

pub excerpt-some : (number : ℕ) (bytes before after : List ℕ) (spot : Option Spot) (start : ℕ) → (length bytes == 0) ≡ false → start ≡ start_of spot
    → before ≡ near_before bytes start → after ≡ near_after bytes start
    → (line_lines number before after ++ carets_if_any number before after spot) ++ codes "\n" ≡ excerpt number bytes spot
unfolding excerpt
excerpt-some number [] before after spot start some s b a = absurd (false≢true (sym some))
excerpt-some number (byte ∷ bytes) before after spot start some s b a =
    ap₂ {A = List ℕ} {B = List ℕ} {C = List ℕ} (λ before after. lines_of number before after spot) (b ∙ ap (near_before (byte ∷ bytes)) s)
    (a ∙ ap (near_after (byte ∷ bytes)) s)
