use Rattle.std.proofs.Common.{◌≡◌, drop}
use Rattle.pam_findings.specs.misspelled.Actions.{digits_of, numbers}
use Rattle.pam_findings.proofs.MisspelledProofs.NearestActions.{digits_from}
use Rattle.pam_findings.proofs.misspelled.actions.digits_of.Given as goal

-- the numbers that are left give the same digits
abbrev pub invariant-loop-place : goal.invariant-loop-place
invariant-loop-place l = digits_of l.word ≡ digits_from l.word (drop l.place numbers)
