use Rattle.std.proofs.Common.{List, Option, ap, map, refl}
use Rattle.std.specs.Option.{option_map}
use Rattle.pam_findings.specs.misspelled.Misspelled.{MisspelledText}
use Rattle.pam_findings.specs.misspelled.MisspelledView.{misspelled_view}
use Rattle.pam_findings.specs.declared.misspelled.word.Misspelled.{Misspelled}
use Rattle.pam_render.proofs.FullTextProofs.Findings.{found-are}
use Rattle.pam_render.specs.parts.CheckNames.{names_view}
use Rattle.pam_report.specs.ReplyViews.{check_view}
use Rattle.pam_text.proofs.Writing.{writes-is}
use Rattle.pam_render.proofs.full_text.document.put_found.Goals as goal

abbrev seen : List (Option Misspelled) → List (Option MisspelledText)
seen words = map (option_map misspelled_view) words

pub returns : goal.returns
returns g c =
    writes-is _ _ _ _ _ _ c.put_findings.ensures
    (found-are (names_view c.args.names.now) c.args.files.now (check_view c.args.reply.now) _ _ _ refl (ap seen c.deref-2.ensures.value)
    c.deref.ensures.value)
