-- For private contracts and proofs alone: a mending, what is read of bytes, and the rest of a file, as values.
use Rattle.std.specs.Prelude.{List, [], map}
use Rattle.std.specs.Option.{option_map_or}
use Rattle.pam_conf.specs.FileRules.{good_rules, own_faults}
use Rattle.pam_conf.specs.Files.{Folder, bytes_at}
use Rattle.pam_conf.specs.Rule.{RuleText}
use Rattle.pam_conf.specs.declared.error.RuleFault.{RuleFault}
use Rattle.pam_render.specs.patch_text.Mended as spec
use Rattle.pam_render.specs.declared.patch_text.mending.Mending.{Mending}
use Rattle.pam_render.specs.declared.patch_text.reading.Reading.{Reading}

abbrev pub mending_view : Mending → spec.Mending
mending_view m = record { file = m.file; line = m.line; at = m.at; from = m.from; after = m.after; text = m.text.now }

abbrev pub mendings_view : List Mending → List spec.Mending
mendings_view mendings = map mending_view mendings

abbrev pub reading_view : Reading → spec.Reading
reading_view r = record { modules = r.modules.items; faults = r.faults.items; count = r.count }

-- the rules and the faults of the first file of a folder
abbrev pub first_rules : Folder → List RuleText
first_rules files = option_map_or (good_rules files.form) (bytes_at 0 files.entries) []

abbrev pub first_faults : Folder → List RuleFault
first_faults files = option_map_or (own_faults files.form) (bytes_at 0 files.entries) []
