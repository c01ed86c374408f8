-- Rows without their layout in memory.
use Rattle.std.specs.Prelude.{ℕ, List, [], ◌∷◌, ◌++◌, Option, Some, None}
use Rattle.std.specs.Borrow.{Bor}
use Rattle.pam_facts.specs.Rows.{Row as RowText}
use Rattle.pam_facts.specs.declared.head.Arguments.{Arguments}
use Rattle.pam_facts.specs.declared.reading.Row.{Row}

abbrev pub texts_of : Option (Bor (List ℕ)) → List (List ℕ)
texts_of None = []
texts_of (Some text) = text.now ∷ []

abbrev pub arguments_view : Arguments → List (List ℕ)
arguments_view arguments = texts_of arguments.first ++ texts_of arguments.second

abbrev pub row_view : Row → RowText
row_view row = record { name = row.name.now; arguments = arguments_view row.arguments; fact = row.fact; knows = row.knows }
