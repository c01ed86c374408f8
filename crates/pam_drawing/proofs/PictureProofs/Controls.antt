-- The controls of the modules, one after the other.
use Rattle.std.proofs.Common.{◌≡◌, ◌∙◌, ℕ, ◌+◌, ◌<◌, ◌≤◌, List, [], ◌∷◌, ◌++◌, Vec, ap, arith, map, sym, take}
use Rattle.std.proofs.lemmas.List.{map-append, take_all, take_more}
use Rattle.std.proofs.lemmas.List.FromFn.{get_or-range_with_len, length-range_with_len}
use Rattle.std.specs.Global.{Global}
use Rattle.std.specs.List.{range_with_len}
use Rattle.pam_conf.specs.Stack.{Items}
use Rattle.pam_drawing.specs.picture.Layouts.{written_control}
use Rattle.pam_drawing.specs.picture.Places.{bytes_of}

module _ (items : Items) (n i : ℕ) where
  -- one more control
  pub one-more : (before all : List (Vec ℕ Global)) (new : Vec ℕ Global) → i < n
      → map bytes_of before ≡ map (written_control items) (take i (range_with_len 0 n)) → new.items ≡ written_control items i
      → all ≡ before ++ new ∷ [] → map bytes_of all ≡ map (written_control items) (take (i + 1) (range_with_len 0 n))
  one-more before all new h so-far is pushed =
      let control = written_control items in
      let numbers = range_with_len 0 n in
      let long = length-range_with_len 0 n in
      let at : 0 + i ≡ i = omega arith in
      let next = ap (λ (k : ℕ). map control (take i numbers) ++ control k ∷ []) (get_or-range_with_len 0 n i 0 h ∙ at) in
      ap (map bytes_of) pushed ∙ map-append bytes_of before (new ∷ []) ∙ ap (λ (l : List (List ℕ)). l ++ new.items ∷ []) so-far
      ∙ ap (λ (x : List ℕ). map control (take i numbers) ++ x ∷ []) is
      ∙ sym (ap (map control) (take_more numbers i 0 (omega (arith, long, h))) ∙ map-append control (take i numbers) _ ∙ next)

  -- all controls
  pub all-controls : n ≤ i → map (written_control items) (take i (range_with_len 0 n)) ≡ map (written_control items) (range_with_len 0 n)
  all-controls h =
      let long = length-range_with_len 0 n in
      ap (map (written_control items)) (take_all i (range_with_len 0 n) (omega (arith, long, h)))
