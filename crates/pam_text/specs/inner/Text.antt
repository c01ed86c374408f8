-- For private contracts and proofs alone: comments and plain bytes of a file.
use Rattle.std.specs.Prelude.{ℕ, Bool, List, [], ◌∷◌, not, drop, ◌==◌, ◌||◌, if◌then◌else◌}
use Rattle.std.specs.List.{prefix_len}
use Rattle.pam_text.specs.Text.{FileByte}

-- the bytes after a comment, where one begins here; else all of them
unfoldable pub past_comment : List ℕ → List ℕ
past_comment [] = []
past_comment (b ∷ bs) = if b == 35 then drop (prefix_len (λ c. not (c == 10)) (b ∷ bs)) (b ∷ bs) else b ∷ bs

abbrev pub first_bytes : List FileByte → List FileByte
first_bytes [] = []
first_bytes (m ∷ ms) = if m.1 == 10 then [] else m ∷ first_bytes ms

-- a byte that means itself everywhere: no line feed, no `#` and no backslash
abbrev pub is_plain : ℕ → Bool
is_plain b = not (b == 10 || b == 35 || b == 92)
