-- For private contracts and proofs alone: lists with EXCEPT.
use Rattle.std.specs.Prelude.{ℕ, ◌%◌, ◌==◌, ◌||◌, not, Bool, List, [], ◌∷◌, if◌then◌else◌}
use Rattle.std.specs.List.{slice_split, prefix_len}
use Rattle.pam_tables.specs.declared.lists.Mark.{Mark}
use Rattle.pam_tables.specs.declared.lists.ListState.{ListState}
use Rattle.pam_tables.specs.Lists.{is_except, part_holds}

-- whether a number plus n is odd, where is_odd says whether the number is
abbrev pub odd_after : Bool → ℕ → Bool
odd_after is_odd n = if n % 2 == 1 then not is_odd else is_odd

-- whether the number of leading parts that hold is odd, counting the parts closed before these (an odd or even number).
-- The first of these parts may hold already
abbrev pub odd_with : Bool → Bool → List (List Mark) → Bool
odd_with is_odd holds [] = is_odd
odd_with is_odd holds (part ∷ parts) =
    if holds || part_holds part then odd_after (not is_odd) (prefix_len part_holds parts) else is_odd

-- whether the list matches, if these are the remaining tokens
unfoldable pub matches_after : ListState → List Mark → Bool
matches_after parts rest = if parts.is_decided then parts.is_odd else odd_with parts.is_odd parts.holds (slice_split is_except rest)
