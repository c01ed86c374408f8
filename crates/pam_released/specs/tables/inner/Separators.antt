-- For private contracts and proofs alone: the options of the separators of an access table.
use Rattle.std.specs.Prelude.{true}
use Rattle.pam_tables.specs.Options.{Options}
use Rattle.pam_released.specs.declared.tables.access.Separators.{Separators}

-- plain names of users may name groups: no difference depends on it
abbrev pub options_with : Separators → Options
options_with s = record { field_separators = s.fields.bytes.now; list_separators = s.tokens.bytes.now; group_names = true }
