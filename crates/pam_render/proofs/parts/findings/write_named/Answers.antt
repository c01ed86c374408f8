use Rattle.std.proofs.Common.{List, Option, ap, map}
use Rattle.std.specs.Option.{option_map}
use Rattle.pam_findings.specs.misspelled.Misspelled.{MisspelledText}
use Rattle.pam_findings.specs.misspelled.MisspelledView.{misspelled_view}
use Rattle.pam_findings.specs.declared.misspelled.word.Misspelled.{Misspelled}
use Rattle.pam_report.specs.ReplyViews.{check_view}
use Rattle.pam_text.proofs.Writing.{all-is, all-then, err-flushes, flushes-last, front-is, front-longer, front-then}
use Rattle.pam_render.proofs.PartsProofs.FindingLines.{lines-are}
use Rattle.pam_render.specs.parts.CheckNames.{names_view}
use Rattle.pam_render.specs.parts.Findings.{rest_lines}
use Rattle.pam_render.proofs.parts.findings.write_named.Goals as goal

abbrev seen : List (Option Misspelled) → List (Option MisspelledText)
seen words = map (option_map misspelled_view) words

pub returns-in_err-put_findings : goal.returns-in_err-put_findings
returns-in_err-put_findings g c =
    let value = check_view c.args.reply.now in
    let line = g.L.CheckLines.line in
    err-flushes _ c.from_residual.ensures.0
    (front-is (front-longer (rest_lines line value) c.in_err-put_findings.ensures)
    (lines-are line value (names_view c.args.names.now) _ _ c.deref.ensures.value (ap seen c.deref-2.ensures.value)))

pub returns-in_err-put_rest : goal.returns-in_err-put_rest
returns-in_err-put_rest g c =
    let value = check_view c.args.reply.now in
    err-flushes _ c.from_residual-in_err-put_rest.ensures.0
    (front-is (front-then c.in_ok-put_findings.ensures c.in_err-put_rest.ensures)
    (lines-are g.L.CheckLines.line value (names_view c.args.names.now) _ _ c.deref.ensures.value (ap seen c.deref-2.ensures.value)))

pub returns : goal.returns
returns g c =
    let value = check_view c.args.reply.now in
    flushes-last _ _
    (all-is (all-then c.in_ok-put_findings.ensures c.in_ok-put_rest.ensures)
    (lines-are g.L.CheckLines.line value (names_view c.args.names.now) _ _ c.deref.ensures.value (ap seen c.deref-2.ensures.value)))
    c.finish.ensures
