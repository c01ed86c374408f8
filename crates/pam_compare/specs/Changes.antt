-- How the decisions of two stacks differ.
use Rattle.std.specs.Prelude.{ℕ, ◌==◌, Option, Some, None, if◌then◌else◌}
use Rattle.pam_dispatch.specs.State.{success}
use Rattle.pam_compare.specs.declared.change.Change.{Change}
use Rattle.pam_compare.specs.declared.change.Change.TheVariants.{Admits, Refuses, Tells}

-- how a new decision differs from the old one
abbrev pub change_of : ℕ → ℕ → Option Change
change_of old new =
    if old == new then None
    else if new == success then Some Admits
    else if old == success then Some Refuses
    else Some Tells
