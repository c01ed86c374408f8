-- Words that are listed.
use Rattle.std.proofs.Common.{◌≡◌, ℕ, Bool, ◌||◌, List, [], ◌∷◌, Bor, map, refl, ap}
use Rattle.std.specs.List.{list_any}

pub any-now : (test : List ℕ → Bool) (words : List (Bor (List ℕ))) → list_any (λ w. test w.now) words ≡ list_any test (map (λ w. w.now) words)
any-now test [] = refl
any-now test (word ∷ words) = ap (λ (b : Bool). test word.now || b) (any-now test words)
