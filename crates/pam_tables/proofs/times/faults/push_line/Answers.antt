use Rattle.std.proofs.lemmas.Result.{on_ok_weaker}
use Rattle.pam_tables.proofs.TimesProofs.FaultSteps.{pushed_line}
use Rattle.pam_tables.proofs.times.faults.push_line.Goals as goal

pub returns : goal.returns
returns c =
    on_ok_weaker c.push_fault.result
    (pushed_line c.args.line.number c.args.line.bytes.now _ _ c.check_line.result (c.check_line.ensures c.args.line.number)) c.push_fault.ensures
