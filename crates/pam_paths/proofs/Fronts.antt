-- The first elements of a list that grows or shrinks at its end.
use Rattle.std.proofs.Common.{◌≡◌, ℕ, ◌-◌, ◌≤◌, ◌∷◌, ◌++◌, [], List, length, map, take, arith, ap, sym, ◌∙◌, length-append}
use Rattle.std.proofs.lemmas.List.{length-take, length-take-le, take-append-le, take-map, take-take, take_at}

module _ {A : Type 0} (all xs : List A) where
  -- the last of the first elements is taken away
  pub front_popped : (ys : List A) → take (length xs) all ≡ xs → ys ≡ take (length xs - 1) xs → take (length ys) all ≡ ys
  front_popped ys front rest =
      let count : length ys ≡ length xs - 1 = ap length rest ∙ length-take-le (length xs - 1) xs (omega arith) in
      let shorter = take-take (length xs - 1) (length xs) all (omega arith) in
      ap (λ (n : ℕ). take n all) count ∙ sym shorter ∙ ap (take (length xs - 1)) front ∙ sym rest

  -- and another one is put in its place
  pub front_changed : (ys : List A) (x : A) → take (length xs) all ≡ xs → ys ≡ xs ++ x ∷ [] → take (length ys - 1) ys ≡ take (length ys - 1) all
  front_changed ys x front pushed =
      let count : length ys - 1 ≡ length xs = omega (arith, ap length pushed, length-append xs (x ∷ [])) in
      ap (λ (n : ℕ). take n ys) count ∙ ap (take (length xs)) pushed ∙ take_at xs (x ∷ []) (length xs) (omega arith) ∙ sym front
      ∙ ap (λ (n : ℕ). take n all) (sym count)

  -- elements are added after all
  pub front_pushed : (ys : List A) (x : A) → take (length all) xs ≡ all → ys ≡ xs ++ x ∷ [] → take (length all) ys ≡ all
  front_pushed ys x front pushed =
      let within : length all ≤ length xs = omega (arith, ap length front, length-take (length all) xs) in
      ap (take (length all)) pushed ∙ take-append-le (length all) xs (x ∷ []) within ∙ front

-- the steps that a path shares with the one before it: those of the frames that were neither changed nor added
pub shared_steps : {A B : Type 0} (step : A → B) (steps : List B) (before mid after : List A) (shared : ℕ)
    → take (length before) steps ≡ take (length steps) (map step before) → take (length mid - 1) mid ≡ take (length mid - 1) before
    → take (length mid) after ≡ mid → shared ≤ length steps → shared ≤ length mid - 1 → take shared steps ≡ take shared (map step after)
shared_steps step steps before mid after shared first changed added few within =
    let kept : length mid - 1 ≤ length before =
    omega (arith, ap length changed, length-take (length mid - 1) mid, length-take (length mid - 1) before) in
    let whole = take-take shared (length steps) (map step before) few in
    let own = sym (take-take shared (length before) steps (omega (arith, kept, within))) in
    let same : take shared before ≡ take shared mid =
    sym (take-take shared (length mid - 1) before within) ∙ ap (take shared) (sym changed) ∙ take-take shared (length mid - 1) mid within in
    let longer : take shared mid ≡ take shared after =
    ap (take shared) (sym added) ∙ take-take shared (length mid) after (omega (arith, within)) in
    own ∙ ap (take shared) first ∙ whole ∙ take-map step shared before ∙ ap (map step) (same ∙ longer) ∙ sym (take-map step shared after)
