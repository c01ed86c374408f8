-- Texts that are cut at a byte, and marks in front of them.
use Rattle.std.specs.Prelude.{ℕ, ◌==◌, Bool, false, List, [], ◌∷◌, Option, drop, if◌then◌else◌}
use Rattle.std.specs.List.{slice_split}
use Rattle.std.specs.Option.{option_map, option_map_or}
use Rattle.pam_text.specs.Cut.{cut_at, is_among}

-- the texts between the separators, of which there is at least one
unfoldable pub parts_of : ℕ → List ℕ → List (List ℕ)
parts_of separator text = slice_split (is_among (separator ∷ [])) text

-- the text before the first separator: all of it where there is none
unfoldable pub before : ℕ → List ℕ → List ℕ
before separator text = option_map_or (λ p. p.0) (cut_at (is_among (separator ∷ [])) text) text

-- the text after the first separator
unfoldable pub after : ℕ → List ℕ → Option (List ℕ)
after separator text = option_map (λ p. p.1) (cut_at (is_among (separator ∷ [])) text)

abbrev pub has_mark : ℕ → List ℕ → Bool
has_mark mark [] = false
has_mark mark (b ∷ bs) = b == mark

abbrev pub without_mark : ℕ → List ℕ → List ℕ
without_mark mark text = if has_mark mark text then drop 1 text else text
