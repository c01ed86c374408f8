-- A path among the paths at which a module is there.
use Rattle.std.proofs.Common.{◌≡◌, ◌∙◌, ◌||◌, ℕ, List, [], ◌∷◌, ap, refl, sym}
use Rattle.std.proofs.lemmas.Bool.Decides.{Decides-like, same_from_decides}
use Rattle.std.proofs.lemmas.Slice.Eq.{bytes_eq-Decides}
use Rattle.std.specs.List.{list_any}
use Rattle.std.specs.Str.{bytes_eq}

turned : (one other : List ℕ) → bytes_eq one other ≡ bytes_eq other one
turned one other =
    same_from_decides (bytes_eq one other) (bytes_eq other one) (bytes_eq-Decides one other)
    (Decides-like (bytes_eq other one) (λ e. sym e) (λ e. sym e) (bytes_eq-Decides other one))

-- whichever of the two is compared with the other
pub any_turned : (path : List ℕ) (paths : List (List ℕ)) → list_any (bytes_eq path) paths ≡ list_any (λ known. bytes_eq known path) paths
any_turned path [] = refl
any_turned path (known ∷ paths) =
    ap (λ t. t || list_any (bytes_eq path) paths) (turned path known) ∙ ap (λ t. bytes_eq known path || t) (any_turned path paths)
