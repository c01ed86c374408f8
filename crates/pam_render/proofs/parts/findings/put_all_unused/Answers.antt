use Rattle.std.proofs.Common.{◌∙◌, ◌+◌, ◌++◌, ap, drop, take}
use Rattle.std.specs.List.{flat_map}
use Rattle.pam_text.proofs.Writing.{err-front, front-is, front-longer, front-then}
use Rattle.pam_text.proofs.FlatTexts.{flat_map-at}
use Rattle.pam_render.specs.parts.Findings.{unused_one}
use Rattle.pam_report.specs.Unused.{unused_view}
use Rattle.pam_report.specs.declared.report.unused.UnusedLine.{UnusedLine}
use Rattle.pam_render.proofs.parts.findings.put_all_unused.Goals as goal

pub returns-in_err-put_unused : goal.returns-in_err-put_unused
returns-in_err-put_unused g c =
    let unused = c.args.unused.now in
    let line = λ (one : UnusedLine). unused_one g.L.CheckLines.line c.args.accept.now c.args.facts.now (unused_view one) in
    let index = c.loop-line.line-index in
    err-front _ c.from_residual.ensures.0
    (front-is
    (front-longer (flat_map line (drop (index + 1) unused)) (front-then c.loop-line.invariant c.in_err-put_unused.ensures))
    (ap (λ (one : UnusedLine). (flat_map line (take index unused) ++ line one) ++ flat_map line (drop (index + 1) unused)) c.line-item.is
    ∙ flat_map-at line unused index _ c.loop-line-test.true))
