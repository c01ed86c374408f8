use Rattle.std.proofs.Common.{sym}
use Rattle.std.proofs.lemmas.Result.{err_from_is_err_and}
use Rattle.pam_findings.proofs.AcceptedProofs.LineSteps.{source_told, whole_file}
use Rattle.pam_findings.proofs.accepted.lines.read_lines.Goals as goal

pub returns-in_err-of : goal.returns-in_err-of
returns-in_err-of c =
    let error = err_from_is_err_and c.from_residual.result c.from_residual.ensures.1 in
    rw error.1 (source_told c.args.bytes.now c.in_err-of.field-0.0 error.0 c.in_err-of.ensures error.2)

pub returns : goal.returns
returns c = rw (sym (whole_file c.args.bytes.now c.in_ok-of.ensures.0), sym c.in_ok-of.ensures.1) c.lines_in.ensures
