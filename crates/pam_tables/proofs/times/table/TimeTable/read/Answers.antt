use Rattle.std.proofs.Common.{◌∙◌}
use Rattle.std.proofs.lemmas.Result.{err_from_is_err_and}
use Rattle.pam_tables.specs.times.Stored.{stored}
use Rattle.pam_tables.proofs.TimesProofs.ReadingSteps.{all_read, line_error, next_line, source_told}
use Rattle.pam_tables.proofs.times.table.TimeTable.read.Goals as goal

pub returns-in_err-of : goal.returns-in_err-of
returns-in_err-of c =
    let p = err_from_is_err_and c.from_residual.result c.from_residual.ensures.1 in
    rw (p.1, p.2) (source_told c.args.bytes.now c.in_err-of.field-0.0 c.in_err-of.ensures)

pub loop-rules-preserved : goal.loop-rules-preserved
loop-rules-preserved c = record {
  same = next_line (stored c.loop-rules.rules) c.in-Some.line.number c.in-Some.line.bytes.now _ _ (rw c.in-Some.is at c.in_ok-line.ensures.lines) _
      c.in_ok-add.ensures.rules ∙ c.loop-rules.invariant.same;
  stored = c.in_ok-add.ensures.stored;
}

pub returns-in_err-add : goal.returns-in_err-add
returns-in_err-add c =
    let p = err_from_is_err_and c.from_residual-in_err-add.result c.from_residual-in_err-add.ensures.1 in
    rw (p.1, p.2) (line_error c.args.bytes.now c.in_ok-of.ensures.0 (stored c.loop-rules.rules) _ c.loop-rules.invariant.same c.in-Some.line.number
    c.in-Some.line.bytes.now _ c.in_err-add.field-0.0 (rw c.in-Some.is at c.in_ok-line.ensures.lines) c.in_err-add.ensures.rules)

pub returns : goal.returns
returns c =
    all_read c.args.bytes.now c.in_ok-of.ensures.0 (stored c.loop-rules.rules) _ c.loop-rules.invariant.same
    (rw c.in_default.is at c.in_ok-line.ensures.lines)
