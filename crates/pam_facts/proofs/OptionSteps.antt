-- Options that are listed.
use Rattle.std.proofs.Common.{◌≡◌, ℕ, Bool, ◌||◌, List, [], ◌∷◌, Bor, map, refl, ap}
use Rattle.std.specs.List.{list_any}

pub any-now : (test : List ℕ → Bool) (options : List (Bor (List ℕ))) → list_any (λ o. test o.now) options ≡ list_any test (map (λ o. o.now) options)
any-now test [] = refl
any-now test (option ∷ options) = ap (λ (b : Bool). test option.now || b) (any-now test options)
