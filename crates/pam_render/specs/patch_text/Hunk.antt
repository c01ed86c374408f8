-- A unified diff of a file with one hunk: three lines before the first line that changes, and three after the last one.
use Rattle.std.specs.Prelude.{ℕ, ◌+◌, ◌-◌, max, min, not, Bool, false, List, ◌∷◌, ◌++◌, bytes_eq, codes, count_by, decimal, fold, if◌then◌else◌}
use Rattle.std.specs.Prelude.{length, slice_get, take}
use Rattle.std.specs.List.{flat_map, range_with_len}
use Rattle.std.specs.Option.{option_map_or}
use Rattle.pam_findings.specs.misspelled.Spots.{after_feeds, is_feed, line_len}
use Rattle.pam_render.specs.patch_text.Mended.{Mending}

-- the bytes do not end with a line feed
abbrev pub is_open : List ℕ → Bool
is_open bytes = option_map_or (λ byte. not (is_feed byte)) (slice_get bytes (length bytes - 1)) false

abbrev pub line_count : List ℕ → ℕ
line_count bytes = count_by is_feed bytes + (if is_open bytes then 1 else 0)

-- the first line of bytes, with its line feed
abbrev pub first_line : List ℕ → List ℕ
first_line bytes = take (line_len bytes + 1) bytes

-- a line, and what is said where it has no line feed
abbrev pub shown_line : List ℕ → List ℕ
shown_line line = if is_open line then line ++ codes "\n\\ No newline at end of file\n" else line

abbrev pub changed_text : List ℕ → List ℕ → List ℕ
changed_text old new = (45 ∷ shown_line old) ++ (43 ∷ shown_line new)

abbrev pub pair_text : List ℕ → List ℕ → List ℕ
pair_text old new = if bytes_eq old new then 32 ∷ shown_line old else changed_text old new

-- THE LINES after this many: one that stays, or an old one and its new one
abbrev pub row : List ℕ → List ℕ → ℕ → List ℕ
row old new passed = pair_text (first_line (after_feeds passed old)) (first_line (after_feeds passed new))

-- the first of the lines that change, and the last one
abbrev pub first_of : ℕ → List Mending → ℕ
first_of line mendings = fold (λ least m. min least m.at) line mendings

abbrev pub last_of : ℕ → List Mending → ℕ
last_of line mendings = fold (λ most m. max most m.at) line mendings

-- the first line of the hunk, and how many lines there are up to its last one: all but those that are more than three after the last one
-- that changes
abbrev pub start_of : ℕ → ℕ
start_of first = max 1 (first - 3)

abbrev pub lines_to : ℕ → ℕ → ℕ
lines_to last lines = lines - (lines - last - 3)

abbrev pub span_text : ℕ → ℕ → List ℕ
span_text start count = decimal start ++ (codes "," ++ decimal count)

abbrev pub names_text : List ℕ → List ℕ
names_text path = codes "--- a/" ++ (path ++ (codes "\n+++ b/" ++ (path ++ codes "\n")))

abbrev pub spans_text : ℕ → ℕ → List ℕ
spans_text start count = codes "@@ -" ++ (span_text start count ++ (codes " +" ++ (span_text start count ++ codes " @@\n")))

abbrev pub head_text : List ℕ → ℕ → ℕ → List ℕ
head_text path start count = names_text path ++ spans_text start count

abbrev pub rows_text : ℕ → ℕ → List ℕ → List ℕ → List ℕ
rows_text passed count old new = flat_map (row old new) (range_with_len passed count)

abbrev pub hunk_text : List ℕ → ℕ → ℕ → List ℕ → List ℕ → List ℕ
hunk_text path start count old new = head_text path start count ++ rows_text (start - 1) count old new

-- THE DIFF of a file from its old bytes to the new ones, if these are the first and the last line that change
abbrev pub diff : List ℕ → ℕ → ℕ → List ℕ → List ℕ → List ℕ
diff path first last old new = hunk_text path (start_of first) (lines_to last (line_count old) - (start_of first - 1)) old new
