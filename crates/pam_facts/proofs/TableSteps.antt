-- The lines of the table's text, and their rows.
use Rattle.std.proofs.Common.{◌≡◌, ◌∙◌, ◌==◌, ◌++◌, ℕ, Bool, List, [], ◌∷◌, Bor, map, refl, sym, ap, append_assoc, append-nil}
use Rattle.std.proofs.lemmas.List.{map-append}
use Rattle.std.proofs.lemmas.List.Elements.{filter_map-append}
use Rattle.std.specs.List.{slice_split}
use Rattle.pam_facts.specs.Reading.{row_if_any, rows_in, table_rows}
use Rattle.pam_facts.specs.Rows.{Row, row_of}
use Rattle.pam_facts.specs.Table.{table, table_text}
use Rattle.pam_facts.specs.Words.{words_of}

-- the byte that ends a line
abbrev pub is_feed : ℕ → Bool
is_feed b = b == 10

abbrev pub texts : List (Bor (List ℕ)) → List (List ℕ)
texts lines = map (λ t. t.now) lines

rows-append : (lines others : List (List ℕ)) → rows_in (lines ++ others) ≡ rows_in lines ++ rows_in others
rows-append lines others = filter_map-append (λ (line : List ℕ). row_if_any (row_of line)) lines others

-- the row of one more line is added
pub row_more : (known old new : List Row) (lines : List (Bor (List ℕ))) (line : Bor (List ℕ)) →
    old ≡ known ++ rows_in (texts lines) → new ≡ old ++ rows_in (line.now ∷ []) → new ≡ known ++ rows_in (texts (lines ++ line ∷ []))
row_more known old new lines line before added =
    added
    ∙ ap (λ (rows : List Row). rows ++ rows_in (line.now ∷ [])) before
    ∙ append_assoc known (rows_in (texts lines)) (rows_in (line.now ∷ []))
    ∙ ap (λ (rows : List Row). known ++ rows) (sym (rows-append (texts lines) (line.now ∷ [])))
    ∙ ap (λ (ls : List (List ℕ)). known ++ rows_in ls) (sym (map-append (λ (t : Bor (List ℕ)). t.now) lines (line ∷ [])))

-- the lines are the rows, and an empty one after the last line feed
lines_are : slice_split is_feed table_text ≡ table ++ [] ∷ []
unfolding table table_text
lines_are = refl

empty_line : rows_in ([] ∷ []) ≡ []
unfolding row_of words_of
empty_line = refl

rows_are : rows_in (slice_split is_feed table_text) ≡ table_rows
unfolding table_rows
rows_are =
    ap rows_in lines_are ∙ rows-append table ([] ∷ []) ∙ ap (λ (rows : List Row). rows_in table ++ rows) empty_line ∙ append-nil (rows_in table)

-- all lines are read
pub all_rows : (known new : List Row) (lines : List (Bor (List ℕ))) →
    new ≡ known ++ rows_in (texts lines) → texts lines ≡ slice_split is_feed table_text → new ≡ known ++ table_rows
all_rows known new lines read all =
    read ∙ ap (λ (ls : List (List ℕ)). known ++ rows_in ls) all ∙ ap (λ (rows : List Row). known ++ rows) rows_are
