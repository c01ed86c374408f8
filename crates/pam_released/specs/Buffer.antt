-- The lines of 1.5.2 with its buffer of 1,024 bytes: `_pam_assemble_line` reads by `fgets`.
use Rattle.std.specs.Prelude.{ℕ, ◌+◌, ◌==◌, Bool, true, false, List, [], ◌∷◌, ◌++◌, length, if◌then◌else◌, Option, Some, None}
use Rattle.std.specs.Option.{option_map}
use Rattle.pam_released.specs.Lines.{before_hash, front_part, goes_on, is_blank_line}

-- what a piece does of which `text` is all but a line feed at its end, after the text of the pieces that go on: `next` is what comes
-- after it, with the text so far, and whether the last piece goes on
abbrev pub piece_read : List ℕ → List ℕ → Bool → (List ℕ → Bool → Option (List (List ℕ))) → Option (List (List ℕ))
piece_read got text inside next =
    if is_blank_line text then next got inside
    else if goes_on text then next (got ++ front_part text) true
    else option_map (λ more. (got ++ before_hash text) ∷ more) (next [] false)

abbrev pub at_end : List ℕ → Bool → Option (List (List ℕ))
at_end got inside = if inside then None else Some []

-- the lines of the rest of a file: `got` is the text of the pieces that go on, `piece` what is read of the next. A piece ends with a
-- line feed, with the file, or where the buffer has 1,023 bytes
unfoldable pub buffered : List ℕ → List ℕ → Bool → List ℕ → Option (List (List ℕ))
buffered got [] inside [] = at_end got inside
buffered got (p ∷ piece) inside [] = piece_read got (p ∷ piece) inside at_end
buffered got piece inside (b ∷ bs) =
    if b == 10 then piece_read got piece inside (λ g i. buffered g [] i bs)
    else if length got + length piece + 1 == 1023 then piece_read got (piece ++ b ∷ []) inside (λ g i. buffered g [] i bs)
    else buffered got (piece ++ b ∷ []) inside bs
