use Rattle.std.proofs.Common.{arith}
use Rattle.pam_findings.proofs.MisspelledProofs.Pieces.{no_such_word}
use Rattle.pam_findings.proofs.misspelled.about.argument_of.Goals as goal

pub returns-then-position-line : goal.returns-then-position-line
returns-then-position-line c = no_such_word c.args.line.now _ (omega arith)
