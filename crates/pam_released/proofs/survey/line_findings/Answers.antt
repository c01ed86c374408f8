use Rattle.std.proofs.Common.{arith}
use Rattle.pam_released.specs.Lines.{physical_lines}
use Rattle.pam_released.specs.Reader.{state_of}
use Rattle.pam_released.proofs.Pushing.{line_end, line_step, used_most}
use Rattle.pam_released.proofs.survey.line_findings.Goals as goal

pub loop-line-preserved : goal.loop-line-preserved
loop-line-preserved c = record {
  found = line_step c.loop-line.number c.loop-line.used c.used_after-used.result (state_of c.loop-line.reader) (state_of c.after_line-reader.result)
      c.in-Some.line.now (physical_lines c.loop-line.rest.now) (physical_lines c.in-Some.after.now) c.loop-line.found.items
      c.push_differences.new.found.items _ c.in-Some.ensures.value c.in_ok-push_differences.ensures c.used_after-used.ensures
      c.after_line-reader.ensures c.loop-line.invariant.found;
  counted = omega (arith, c.in-Some.ensures.shorter);
  fits = omega (arith, c.in-Some.ensures.bound, used_most c.loop-line.used c.in-Some.line.now);
}

pub returns : goal.returns
returns c =
    line_end c.loop-line.number c.loop-line.used (state_of c.loop-line.reader) (physical_lines c.loop-line.rest.now) c.loop-line.found.items _
    c.in_default.ensures.value c.loop-line.invariant.found
