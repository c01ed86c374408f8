-- The text of a line, piece by piece.
use Rattle.std.proofs.Common.{◌≡◌, ℕ, ◌+◌, ◌<◌, List, [], ◌∷◌, ◌++◌, length, take, drop, get_or, refl, sym, ap, ◌∙◌, append_assoc, append-nil}
use Rattle.std.proofs.lemmas.List.{take-append-drop, take_more}
use Rattle.pam_text.specs.Piece.{line_text, piece_text}
use Rattle.pam_text.specs.declared.piece.Piece.{Piece}

pub line_text-append : (xs ys : List Piece) → line_text (xs ++ ys) ≡ line_text xs ++ line_text ys
line_text-append [] ys = refl
line_text-append (x ∷ xs) ys = ap (λ l. piece_text x ++ l) (line_text-append xs ys) ∙ sym (append_assoc (piece_text x) (line_text xs) (line_text ys))

-- one more piece
pub line_text-take : (xs : List Piece) (i : ℕ) (d : Piece) → i < length xs → line_text (take (i + 1) xs) ≡ line_text (take i xs) ++ piece_text (get_or xs i d)
line_text-take xs i d h =
    ap line_text (take_more xs i d h) ∙ line_text-append (take i xs) (get_or xs i d ∷ [])
    ∙ ap (λ l. line_text (take i xs) ++ l) (append-nil (piece_text (get_or xs i d)))

-- the pieces before the i-th, that piece and the others
pub line_text-at : (xs : List Piece) (i : ℕ) (d : Piece) → i < length xs
    → (line_text (take i xs) ++ piece_text (get_or xs i d)) ++ line_text (drop (i + 1) xs) ≡ line_text xs
line_text-at xs i d h =
    ap (λ l. l ++ line_text (drop (i + 1) xs)) (sym (line_text-take xs i d h))
    ∙ sym (line_text-append (take (i + 1) xs) (drop (i + 1) xs))
    ∙ ap line_text (take-append-drop (i + 1) xs)
