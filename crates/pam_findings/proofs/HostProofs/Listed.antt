-- Lists of texts, through references.
use Rattle.std.proofs.Common.{◌≡◌, ℕ, ◌||◌, List, [], ◌∷◌, map, refl, ap, Bor}
use Rattle.std.specs.List.{list_any}
use Rattle.std.specs.Str.{bytes_eq}

pub any-now : (text : List ℕ) (texts : List (Bor (List ℕ))) → list_any (λ t. bytes_eq text t.now) texts ≡ list_any (bytes_eq text) (map (λ t. t.now) texts)
any-now text [] = refl
any-now text (t ∷ texts) = ap (λ b. bytes_eq text t.now || b) (any-now text texts)
