use Rattle.std.specs.Char.{to_ascii_lowercase}
use Rattle.std.proofs.Common.{map}
use Rattle.pam_findings.proofs.MisspelledProofs.NearestActions.{done_is_nearer, numbers_first}
use Rattle.pam_findings.proofs.misspelled.laws.actions.Goals as goal

pub returns-clause-numbers : goal.returns-clause-numbers
returns-clause-numbers c = λ word digits e. numbers_first (map to_ascii_lowercase word) digits e

pub returns-clause-done : goal.returns-clause-done
returns-clause-done c = λ word h. done_is_nearer word h
