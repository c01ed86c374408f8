use Rattle.std.proofs.Common.{◌∙◌}
use Rattle.pam_text.specs.Left.{text_left}
use Rattle.pam_text.specs.Text.{text_lines}
use Rattle.pam_released.specs.tables.Times.{time_tests}
use Rattle.pam_released.proofs.TablesProofs.FindingSteps.{line_end, line_step, times_are}
use Rattle.pam_released.proofs.tables.times.time_findings.Goals as goal

pub loop-found-preserved : goal.loop-found-preserved
loop-found-preserved c =
    line_step (time_tests c.in_ok-unfinished.unfinished) c.in-Some.line.number c.in-Some.line.bytes.now (text_lines (text_left c.loop-found.text))
    (text_lines (text_left c.next_line.new.self)) c.loop-found.found.items c.push_differences.new.found.items _
    (rw c.in-Some.is at c.in_ok-line.ensures.lines) c.in_ok-push_differences.ensures c.loop-found.invariant

pub returns : goal.returns
returns c =
    line_end (time_tests c.in_ok-unfinished.unfinished) (text_lines (text_left c.loop-found.text)) c.loop-found.found.items _
    (rw c.in_default.is at c.in_ok-line.ensures.lines) c.loop-found.invariant
    ∙ times_are c.args.source.bytes.now _ c.in_ok-unfinished.ensures
