use Rattle.std.proofs.lemmas.Bool.{lt-ltb}
use Rattle.pam_report.proofs.fault.line_in.Goals as goal

pub returns-then-number-gt1 : goal.returns-then-number-gt1
returns-then-number-gt1 c = rw (lt-ltb 1 c.args.number c.if-number-gt1.true) c.line.ensures
