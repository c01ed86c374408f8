-- The first of the remaining lines.
use Rattle.std.proofs.Common.{◌≡◌, ◌+◌, ℕ, Bool, true, false, List, [], ◌∷◌, ◌<◌, length, arith, Some, None, refl, ap}
use Rattle.pam_tables.specs.Lines.{cut_at, is_among, lines_from, lines_left, numbered, without_return}
use Rattle.pam_text.proofs.Splits.{split_found, split_none}

pub first_line : (done : Bool) (n : ℕ) (text a r line : List ℕ) → done ≡ false → Some (a, r) ≡ cut_at (is_among (10 ∷ [])) text → line ≡ without_return a →
    lines_left done n text ≡ (n, line) ∷ lines_left done (n + 1) r
unfolding lines_left lines_from
first_line done n text a r line d e l = rw (d, l) (ap (numbered n) (split_found (is_among (10 ∷ [])) text a r e))

pub last_line : (done : Bool) (n : ℕ) (text line : List ℕ) → done ≡ false → None ≡ cut_at (is_among (10 ∷ [])) text → line ≡ without_return text →
    lines_left done n text ≡ (n, line) ∷ []
unfolding lines_left lines_from
last_line done n text line d e l = rw (d, l) (ap (numbered n) (split_none (is_among (10 ∷ [])) text e))

pub no_line : (done : Bool) (n : ℕ) (text : List ℕ) → done ≡ true → lines_left done n text ≡ []
unfolding lines_left
no_line done n text d = rw d refl

pub shorter : {A : Type 0} (xs ys : List A) (x : A) → xs ≡ x ∷ ys → length ys < length xs
shorter xs ys x e = rw e (omega arith)
