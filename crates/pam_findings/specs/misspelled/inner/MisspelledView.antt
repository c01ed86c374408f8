-- For private contracts and proofs alone: the value of a word that is wrong, and of the right names.
use Rattle.std.specs.Prelude.{[], map}
use Rattle.std.specs.Option.{option_map_or}
use Rattle.pam_findings.specs.misspelled.Misspelled.{Right}
use Rattle.pam_findings.specs.declared.misspelled.word.RightNames.{RightNames}

-- for private contracts alone
abbrev pub right_view : RightNames → Right
right_view right = record {
  files = map (λ name. name.now) right.files.items;
  modules = map (λ m. m.now) right.modules.items;
  dead = option_map_or (λ names. names.now) right.dead [];
}
