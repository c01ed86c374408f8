-- The answers by which an event happens: pam.conf(5), DESCRIPTION, the values that a module returns.
use Rattle.std.specs.Prelude.{ℕ, ◌-◌, List, [], slice_index_or}
use Rattle.pam_policy.specs.declared.search.marks.Marks.{Marks}

-- the answers of the module with this number
abbrev pub codes_at : Marks → ℕ → List ℕ
codes_at marks number = slice_index_or marks.codes (number - 1) []
