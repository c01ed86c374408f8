use Rattle.std.proofs.Common.{◌≡◌, List, map, ap}
use Rattle.pam_codes.proofs.Writing.{all-is, all-then, err-flushes, flushes-last, front-is, front-longer, front-then}
use Rattle.pam_render.specs.text.Decide.{trace_text}
use Rattle.pam_report.specs.ReplyViews.{asked_view}
use Rattle.pam_report.specs.declared.report.trace.AskedModule.{AskedModule}
use Rattle.pam_render.proofs.text.decide.write_run.Goals as goal

lines : {one other : List AskedModule} → one ≡ other → trace_text (map asked_view one) ≡ trace_text (map asked_view other)
lines is = ap (λ (modules : List AskedModule). trace_text (map asked_view modules)) is

pub returns-in_err-put_trace : goal.returns-in_err-put_trace
returns-in_err-put_trace g c =
    err-flushes _ c.from_residual-in_err-put_trace.ensures.0
    (front-longer _ (front-then c.in_ok-put_header.ensures (front-is c.in_err-put_trace.ensures (lines c.deref.ensures.value))))

pub returns-in_err-put_decision : goal.returns-in_err-put_decision
returns-in_err-put_decision g c =
    err-flushes _ c.from_residual-in_err-put_decision.ensures.0
    (front-then (all-then c.in_ok-put_header.ensures (all-is c.in_ok-put_trace.ensures (lines c.deref.ensures.value))) c.in_err-put_decision.ensures)

pub returns : goal.returns
returns g c =
    flushes-last _ _
    (all-then (all-then c.in_ok-put_header.ensures (all-is c.in_ok-put_trace.ensures (lines c.deref.ensures.value))) c.in_ok-put_decision.ensures)
    c.finish.ensures
