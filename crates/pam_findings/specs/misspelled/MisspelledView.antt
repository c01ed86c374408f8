-- The value of a word that is wrong, and of the right names.
use Rattle.std.specs.Option.{option_map}
use Rattle.pam_findings.specs.misspelled.Misspelled.{MisspelledText}
use Rattle.pam_findings.specs.declared.misspelled.word.Misspelled.{Misspelled}

abbrev pub misspelled_view : Misspelled → MisspelledText
misspelled_view m = record {
  of = m.module.items;
  word = m.word.items;
  nearest = option_map (λ word. word.items) m.nearest;
  is_certain = m.is_certain;
  leads_nowhere = m.leads_nowhere;
  spot = m.spot;
}
