use Rattle.std.proofs.Common.{◌∙◌}
use Rattle.pam_released.specs.tables.Access.{access_tests}
use Rattle.pam_released.specs.tables.inner.Separators.{options_with}
use Rattle.pam_released.proofs.TablesProofs.FindingSteps.{access_are, line_end, line_step}
use Rattle.pam_released.proofs.tables.access.access_findings.Goals as goal

pub loop-number-preserved : goal.loop-number-preserved
loop-number-preserved c = record {
  can = tt;
  finite = tt;
  found = line_step (access_tests (options_with (record { fields = c.of.result; tokens = c.of-2.result })) c.last_line-last.result)
      c.in-Some.number c.in-Some.line.now _ _ c.loop-number.found.items c.push_differences.new.found.items _ c.in-Some.ensures.steps
      c.in_ok-push_differences.ensures c.loop-number.invariant.found;
}

pub returns : goal.returns
returns c =
    line_end (access_tests (options_with (record { fields = c.of.result; tokens = c.of-2.result })) c.last_line-last.result)
    _ c.loop-number.found.items _ c.in-None.ensures.steps.0 c.loop-number.invariant.found
    ∙ access_are c.args.options.now c.args.source.bytes.now _ _ _ (c.of.ensures ∙ c.field_separators.ensures)
    (c.of-2.ensures ∙ c.list_separators.ensures) c.last_line-last.ensures
