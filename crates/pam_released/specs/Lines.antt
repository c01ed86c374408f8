-- The lines of a file, as released Linux-PAM assembles them: `_pam_assemble_line`, `_pam_line_assemble`.
use Rattle.std.specs.Prelude.{ℕ, ◌==◌, ◌&&◌, ◌||◌, not, Bool, true, false, List, [], ◌∷◌, ◌++◌, map, if◌then◌else◌, Option, Some, None}
use Rattle.std.specs.Option.{option_map}
use Rattle.std.specs.List.{list_all, list_any, onto_first, slice_split}
use Rattle.pam_text.specs.Blanks.{is_text_blank}
use Rattle.pam_text.specs.Text.{text_of, lines_of}

-- PHYSICAL LINES

-- what is before each line feed, and after the last one, if any byte is
unfoldable pub physical_lines : List ℕ → List (List ℕ)
physical_lines [] = []
physical_lines (b ∷ bs) = if b == 10 then [] ∷ physical_lines bs else onto_first b (physical_lines bs)

-- what is between line feeds: after the last one too, where no byte is
abbrev pub pieces : List ℕ → List (List ℕ)
pieces bytes = slice_split (λ b. b == 10) bytes

-- a space or a tab
abbrev pub is_space_or_tab : ℕ → Bool
is_space_or_tab b = b == 32 || b == 9

-- the bytes before the first `#`
unfoldable pub before_hash : List ℕ → List ℕ
before_hash [] = []
before_hash (b ∷ bs) = if b == 35 then [] else b ∷ before_hash bs

abbrev pub has_hash : List ℕ → Bool
has_hash line = list_any (λ b. b == 35) line

-- the line is blank, but for a comment
abbrev pub is_blank_line : List ℕ → Bool
is_blank_line line = list_all is_space_or_tab (before_hash line)

-- the last byte is a line feed
unfoldable pub ends_in_feed : List ℕ → Bool
ends_in_feed [] = false
ends_in_feed (b ∷ []) = b == 10
ends_in_feed (b ∷ c ∷ bs) = ends_in_feed (c ∷ bs)

unfoldable pub ends_in_backslash : List ℕ → Bool
ends_in_backslash [] = false
ends_in_backslash (b ∷ []) = b == 92
ends_in_backslash (b ∷ c ∷ bs) = ends_in_backslash (c ∷ bs)

-- without the blanks at its end
unfoldable pub without_end_blanks : List ℕ → List ℕ
without_end_blanks [] = []
without_end_blanks (b ∷ bs) = if list_all is_space_or_tab (b ∷ bs) then [] else b ∷ without_end_blanks bs

-- without the blanks at its start
unfoldable pub without_start_blanks : List ℕ → List ℕ
without_start_blanks [] = []
without_start_blanks (b ∷ bs) = if is_space_or_tab b then without_start_blanks bs else b ∷ bs

-- with a space for the last byte
unfoldable pub last_is_space : List ℕ → List ℕ
last_is_space [] = []
last_is_space (b ∷ []) = 32 ∷ []
last_is_space (b ∷ c ∷ bs) = b ∷ last_is_space (c ∷ bs)

-- the next line goes on with this one: it has no `#`, and ends in a backslash, but for blanks
abbrev pub goes_on : List ℕ → Bool
goes_on line = not (has_hash line) && ends_in_backslash (without_end_blanks line)

-- the part of a logical line that a line which goes on is
abbrev pub front_part : List ℕ → List ℕ
front_part line = last_is_space (without_end_blanks line)

-- a text in front of the first of some lines
abbrev pub onto_line : List ℕ → List (List ℕ) → List (List ℕ)
onto_line text [] = text ∷ []
onto_line text (line ∷ lines) = (text ++ line) ∷ lines

-- THE LOGICAL LINES

-- 1.5.2, where no line is too long: a line that is blank or a comment is skipped, also after a line that goes on. None
-- where the file ends after a line that goes on: it is refused as a whole. `inside`: the line before goes on
unfoldable pub lines_152 : Bool → List (List ℕ) → Option (List (List ℕ))
lines_152 inside [] = if inside then None else Some []
lines_152 inside (line ∷ lines) =
    if is_blank_line line then lines_152 inside lines
    else if goes_on line then option_map (onto_line (front_part line)) (lines_152 true lines)
    else option_map (λ more. before_hash line ∷ more) (lines_152 false lines)

-- 1.7.0: a line of any length; the blanks that a physical line begins with are dropped, also in the midst of a logical line
unfoldable pub lines_170 : Bool → List (List ℕ) → Option (List (List ℕ))
lines_170 inside [] = if inside then None else Some []
lines_170 inside (line ∷ lines) =
    if goes_on line then option_map (onto_line (without_start_blanks (front_part line))) (lines_170 true lines)
    else option_map (λ more. without_start_blanks (before_hash line) ∷ more) (lines_170 false lines)

-- THE LINES OF THE MANUAL PAGES, BY PHYSICAL LINES

-- the bytes of each line of the profile
abbrev pub manual_lines_of : List ℕ → List (List ℕ)
manual_lines_of bytes = map (map (λ m. m.1)) (lines_of (text_of 1 bytes))

-- a line that ends in a backslash, without its comment, goes on with the next one, if there is one
unfoldable pub continued : List (List ℕ) → List (List ℕ)
continued [] = []
continued (line ∷ []) = line ∷ []
continued (line ∷ next ∷ lines) =
    if ends_in_backslash line then onto_line (last_is_space line) (continued (next ∷ lines)) else line ∷ continued (next ∷ lines)

-- the lines that have a byte other than blanks
unfoldable pub filled : List (List ℕ) → List (List ℕ)
filled [] = []
filled (line ∷ lines) = if list_all is_text_blank line then filled lines else line ∷ filled lines

-- the lines of 1.7.0 that are not empty: the others are skipped
unfoldable pub not_empty : List (List ℕ) → List (List ℕ)
not_empty [] = []
not_empty ([] ∷ lines) = not_empty lines
not_empty ((b ∷ bs) ∷ lines) = (b ∷ bs) ∷ not_empty lines
