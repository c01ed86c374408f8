-- The longest prefix of a list whose elements pass a test.
use Rattle.std.proofs.Common.{◌≡◌, ◌+◌, ℕ, Bool, true, false, List, [], ◌∷◌, drop, cond, ap, refl, one-add}
use Rattle.std.specs.List.{prefix_len}

-- the byte after it does not pass
pub prefix_len-after : (p : ℕ → Bool) (bs : List ℕ) → prefix_len p (drop (prefix_len p bs) bs) ≡ 0
prefix_len-after p [] = refl
prefix_len-after p (b ∷ bs) =
    elim (p b) as (λ (t : Bool). p b ≡ t → prefix_len p (drop (prefix_len p (b ∷ bs)) (b ∷ bs)) ≡ 0) [
      | true ↦ λ e.
          let here : prefix_len p (b ∷ bs) ≡ 1 + prefix_len p bs = ap (λ (t : Bool). cond t (1 + prefix_len p bs) 0) e in
          rw here (rw one-add (prefix_len-after p bs))
      | false ↦ λ e.
          let stop : prefix_len p (b ∷ bs) ≡ 0 = ap (λ (t : Bool). cond t (1 + prefix_len p bs) 0) e in
          rw stop stop
    ] refl
