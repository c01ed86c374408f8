use Rattle.std.proofs.Common.{refl}
use Rattle.pam_report.specs.ReplyViews.{check_view}
use Rattle.pam_text.proofs.Writing.{all-then, err-front, front-is, front-longer, front-then, writes-is, writes-then}
use Rattle.pam_render.proofs.PartsProofs.FindingLines.{rest-are}
use Rattle.pam_render.specs.parts.Findings.{last_of}
use Rattle.pam_render.specs.parts.inner.Lines.{written}
use Rattle.pam_render.proofs.parts.findings.put_rest.Goals as goal

pub returns-in_err-put_tables : goal.returns-in_err-put_tables
returns-in_err-put_tables g c =
    let value = check_view c.args.reply.now in
    let line = g.L.CheckLines.line in
    let unused = c.args.reply.now.unused.items in
    err-front _ c.from_residual.ensures.0
    (front-is (front-longer (last_of line value) (front-longer (written line value.accept value.facts unused) c.in_err-put_tables.ensures))
    (rest-are line value unused refl _ _ _ _ c.deref.ensures.value refl refl refl))

pub returns-in_err-put_all_unused : goal.returns-in_err-put_all_unused
returns-in_err-put_all_unused g c =
    let value = check_view c.args.reply.now in
    let line = g.L.CheckLines.line in
    err-front _ c.from_residual-in_err-put_all_unused.ensures.0
    (front-is (front-longer (last_of line value) (front-then c.in_ok-put_tables.ensures c.in_err-put_all_unused.ensures))
    (rest-are line value c.args.reply.now.unused.items refl _ _ _ _ c.deref.ensures.value c.as_bytes.ensures.value c.as_bytes-2.ensures.value
    c.deref-2.ensures.value))

pub returns : goal.returns
returns g c =
    let value = check_view c.args.reply.now in
    writes-is _ _ _ _ _ _ (writes-then _ _ _ (all-then c.in_ok-put_tables.ensures c.in_ok-put_all_unused.ensures) c.put_last.ensures)
    (rest-are g.L.CheckLines.line value c.args.reply.now.unused.items refl _ _ _ _ c.deref.ensures.value c.as_bytes.ensures.value
    c.as_bytes-2.ensures.value c.deref-2.ensures.value)
