-- The names and the words of a check, as lists.
use Rattle.std.specs.Borrow.{Bor}
use Rattle.std.specs.Prelude.{Option, map}
use Rattle.std.specs.Option.{option_map}
use Rattle.pam_findings.specs.misspelled.Misspelled.{MisspelledText}
use Rattle.pam_findings.specs.misspelled.MisspelledView.{misspelled_view}
use Rattle.pam_findings.specs.declared.misspelled.word.Misspelled.{Misspelled}
use Rattle.pam_render.specs.parts.Check as spec
use Rattle.pam_render.specs.declared.parts.check.Names.{Names}

abbrev pub names_view : Names → spec.Names
names_view names = record {
  form = names.form;
  paths = map (λ path. path.now) names.paths.items;
  services = map (λ service. service.now) names.services.items;
  ways_in = names.ways_in.now;
}

-- a word that is wrong, if it is known
abbrev pub word_of : Option (Bor Misspelled) → Option MisspelledText
word_of word = option_map (λ m. misspelled_view m.now) word
