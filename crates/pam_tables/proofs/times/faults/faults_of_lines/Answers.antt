use Rattle.pam_text.specs.Left.{text_left}
use Rattle.pam_text.specs.Text.{text_lines}
use Rattle.pam_tables.proofs.TimesProofs.FaultSteps.{fault_end, fault_step}
use Rattle.pam_tables.proofs.times.faults.faults_of_lines.Goals as goal

pub loop-faults-preserved : goal.loop-faults-preserved
loop-faults-preserved c =
    fault_step c.in-Some.line.number c.in-Some.line.bytes.now (text_lines (text_left c.loop-faults.text)) (text_lines (text_left c.next_line.new.self))
    c.loop-faults.faults.items c.push_line.new.faults.items _ (rw c.in-Some.is at c.in_ok-line.ensures.lines) c.in_ok-push_line.ensures
    c.loop-faults.invariant

pub returns : goal.returns
returns c =
    fault_end (text_lines (text_left c.loop-faults.text)) c.loop-faults.faults.items _ (rw c.in_default.is at c.in_ok-line.ensures.lines)
    c.loop-faults.invariant
