-- A folder of which the first names and the depth are known, and the parts of a path.
use Rattle.std.proofs.Common.{◌≡◌, ◌∙◌, ℕ, zero, suc, List, [], ◌∷◌, map, take, Bor, Option, Some, None, refl, sym, ap}
use Rattle.std.proofs.lemmas.List.{take-map}
use Rattle.std.specs.List.{slice_split}
use Rattle.pam_text.proofs.Splits.{split_found, split_none}
use Rattle.pam_text.specs.Cut.{cut_at, is_among}
use Rattle.pam_facts.specs.Paths.{entered, module_below, module_in, parts_of}

abbrev no_names : List (List ℕ)
no_names = []

take_none : (n : ℕ) → no_names ≡ take n no_names
take_none zero = refl
take_none (suc n) = refl

take_swap : (m n : ℕ) (xs : List (List ℕ)) → take m (take n xs) ≡ take n (take m xs)
take_swap zero n xs = take_none n
take_swap (suc m) zero xs = refl
take_swap (suc m) (suc n) [] = refl
take_swap (suc m) (suc n) (x ∷ xs) = ap (λ (t : List (List ℕ)). x ∷ t) (take_swap m n xs)

-- the first names of a folder, and of one in which it is
pub fewer_names : (items : List (Bor (List ℕ))) (names : List (List ℕ)) (k : ℕ) → map (λ n. n.now) items ≡ take 4 names →
    map (λ n. n.now) (take k items) ≡ take 4 (take k names)
fewer_names items names k e = sym (take-map (λ (n : Bor (List ℕ)). n.now) k items) ∙ ap (take k) e ∙ take_swap k 4 names

-- the parts of a path
pub some_parts : (path : List ℕ) → (first : List ℕ) × (others : List (List ℕ)) × (parts_of path ≡ first ∷ others)
unfolding parts_of
some_parts path =
    elim (cut_at (is_among (47 ∷ [])) path) as (λ (o : Option (List ℕ × List ℕ)). o ≡ cut_at (is_among (47 ∷ [])) path →
    (first : List ℕ) × (others : List (List ℕ)) × (parts_of path ≡ first ∷ others)) [
      | Some p ↦ λ e. (p.0, slice_split (is_among (47 ∷ [])) p.1, split_found _ path p.0 p.1 e)
      | None ↦ λ e. (path, [], split_none _ path e)
    ] refl

entered_first : (names parts : List (List ℕ)) (name first : List ℕ) (others : List (List ℕ)) → parts ≡ first ∷ others →
    module_below names (name ∷ parts) ≡ module_below (entered names name) parts
unfolding module_below
entered_first names parts name first others e = rw e refl

-- one that goes on is left by its first name, and the last part is a file
pub goes_on : (names : List (List ℕ)) (path name after : List ℕ) → Some (name, after) ≡ cut_at (is_among (47 ∷ [])) path →
    module_below names (parts_of path) ≡ module_below (entered names name) (parts_of after)
unfolding parts_of
goes_on names path name after e =
    let rest = some_parts after in
    ap (module_below names) (split_found _ path name after e) ∙ entered_first names (parts_of after) name rest.0 rest.1 rest.2

pub ends : (names : List (List ℕ)) (path : List ℕ) → None ≡ cut_at (is_among (47 ∷ [])) path → module_below names (parts_of path) ≡ module_in names path
unfolding parts_of module_below
ends names path e = ap (module_below names) (split_none _ path e)
