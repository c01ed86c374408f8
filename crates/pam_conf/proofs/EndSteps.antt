-- Suffixes of names, through references.
use Rattle.std.proofs.Common.{◌≡◌, ℕ, ◌||◌, List, [], ◌∷◌, map, refl, ap, Bor}
use Rattle.std.specs.List.{list_any}
use Rattle.pam_conf.specs.Services.{ends}

pub any-end : (name : List ℕ) (texts : List (Bor (List ℕ))) → list_any (λ t. ends name t.now) texts ≡ list_any (ends name) (map (λ t. t.now) texts)
any-end name [] = refl
any-end name (t ∷ texts) = ap (λ b. ends name t.now || b) (any-end name texts)
