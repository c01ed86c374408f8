use Rattle.std.proofs.Common.{ℕ, List, Option, ap, ap₂, map}
use Rattle.std.specs.List.{enumerate_from, flat_map}
use Rattle.std.specs.Option.{option_map}
use Rattle.pam_findings.specs.declared.host.problem.Place.{Place}
use Rattle.pam_findings.specs.declared.host.report.Finding.{Finding}
use Rattle.pam_findings.specs.declared.misspelled.word.Misspelled.{Misspelled}
use Rattle.pam_findings.specs.misspelled.Misspelled.{MisspelledText}
use Rattle.pam_findings.specs.misspelled.MisspelledView.{misspelled_view}
use Rattle.pam_text.proofs.Writing.{writes-is}
use Rattle.pam_render.specs.parts.CheckNames.{names_view}
use Rattle.pam_render.specs.sarif.inner.Written.{numbered_text}
use Rattle.pam_render.proofs.sarif.results.put_found.Goals as goal

abbrev seen : List (Option Misspelled) → List (Option MisspelledText)
seen words = map (option_map misspelled_view) words

pub returns : goal.returns
returns g c =
    writes-is _ _ _ _ _ _ c.put_findings.ensures
    (ap₂ {A = List (Place × Finding)} {B = List (Option MisspelledText)} {C = List ℕ}
    (λ found words. flat_map (numbered_text (names_view c.args.names.now) words) (enumerate_from 0 found))
    c.deref.ensures.value (ap seen c.deref-2.ensures.value))
