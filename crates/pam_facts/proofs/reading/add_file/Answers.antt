use Rattle.std.proofs.Common.{◌∙◌, sym, map}
use Rattle.pam_facts.specs.Views.{row_view}
use Rattle.pam_facts.proofs.AddSteps.{fault_told, line_read}
use Rattle.pam_facts.proofs.RowSteps.{bytes_fail, bytes_pass, line_fails, lines_end, source_told}
use Rattle.pam_facts.proofs.reading.add_file.Goals as goal

pub returns-in-Err : goal.returns-in-Err
returns-in-Err c = rw c.of_source.ensures (source_told c.in-Err.fault _ (bytes_fail _ _ c.in-Err.fault c.in-Err.ensures))

pub returns-in-Err-add_line : goal.returns-in-Err-add_line
returns-in-Err-add_line c =
    rw c.at.ensures (fault_told (map row_view c.loop-number.rows.items) _ c.in-Err-add_line.fault c.in-Some.number _ c.in-Err-add_line.ensures.added
    (λ is. bytes_pass _ _ c.in-Ok.ensures.0 ∙ sym c.loop-number.invariant.same ∙ line_fails _ _ _ _ _ c.in-Some.ensures.steps c.in-Err-add_line.fault is))

pub loop-number-preserved : goal.loop-number-preserved
loop-number-preserved c = record {
  can = tt;
  finite = tt;
  same = line_read _ _ _ _ _ _ c.in-Some.ensures.steps c.in_default.ensures.added ∙ c.loop-number.invariant.same;
}

pub returns : goal.returns
returns c = bytes_pass _ _ c.in-Ok.ensures.0 ∙ sym c.loop-number.invariant.same ∙ lines_end _ _ c.in-None.ensures.steps.0
