use Rattle.std.proofs.Common.{◌≡◌, ◌++◌}
use Rattle.pam_findings.proofs.tables.needs.copy.Given as goal

-- the texts so far, and those that are left
abbrev pub invariant-loop-text : goal.invariant-loop-text
invariant-loop-text l = l.copied ++ l.text-iterator ≡ l.fn.texts
