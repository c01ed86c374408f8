use Rattle.std.proofs.Common.{◌≡◌}
use Rattle.pam_report.specs.Refusal.{first_missing}
use Rattle.pam_report.proofs.fault.missing.first_missing.Given as goal

-- the first of the names that are left is the first of all
abbrev pub invariant-loop-name : goal.invariant-loop-name
invariant-loop-name l = first_missing l.files l.name-iterator ≡ first_missing l.files l.names
