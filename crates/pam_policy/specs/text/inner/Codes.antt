-- For private contracts and proofs alone: the codes of a word, one item after another.
use Rattle.std.specs.Prelude.{ℕ, ◌||◌, List, Option, Some, None, if◌then◌else◌}
use Rattle.pam_codes.specs.Set.{codes_where, is_in}
use Rattle.pam_policy.specs.text.Codes.{is_item, item_names}

-- codes, and those of one more item
abbrev pub with_item : List ℕ → List ℕ → Option (List ℕ)
with_item codes item = if is_item item then Some (codes_where (λ code. item_names code item || is_in code codes)) else None
