-- Bytes without a NUL byte.
use Rattle.std.proofs.Common.{◌≡◌, ◌≤◌, ◌==◌, ◌+◌, ◌||◌, ℕ, Bool, true, false, not, List, [], ◌∷◌, length, cond, Some, None, position, refl, ap, sym, arith}
use Rattle.std.specs.List.{list_any, position_or_len}
use Rattle.std.proofs.lemmas.Bool.{le-ltb, false≢true}
use Rattle.pam_text.specs.Source.{source_fault}

-- a byte that a list does not contain has no position in it
past_all : (p : ℕ → Bool) (bs : List ℕ) → list_any p bs ≡ false → position_or_len p bs ≡ length bs
past_all p [] h = refl
past_all p (b ∷ bs) h = elim (p b) as (λ (t : Bool). (t || list_any p bs) ≡ false → cond (not t) (1 + position_or_len p bs) 0 ≡ length (b ∷ bs)) [
  | true ↦ λ k. absurd (false≢true (sym k))
  | false ↦ λ k. omega (arith, past_all p bs k)
] h

nowhere : (p : ℕ → Bool) (bs : List ℕ) → list_any p bs ≡ false → position p bs ≡ None
nowhere p bs h =
    ap (λ (t : Bool). cond t (Some (position_or_len p bs)) None)
    (le-ltb (position_or_len p bs) (length bs) (let e : position_or_len p bs ≡ length bs = past_all p bs h in omega (arith, e)))

pub sound : (bs : List ℕ) → length bs ≤ 1048576 → list_any (λ b. b == 0) bs ≡ false → source_fault bs ≡ None
unfolding source_fault
sound bs short none = rw (le-ltb 1048576 (length bs) short, nowhere (λ b. b == 0) bs none) refl
