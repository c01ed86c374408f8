use Rattle.std.proofs.Common.{◌≡◌, ◌++◌}
use Rattle.pam_policy.proofs.names.calls.copied.Given as goal

-- the texts so far, and those that are left
abbrev pub invariant-loop-text : goal.invariant-loop-text
invariant-loop-text l = l.copy ++ l.text-iterator ≡ l.texts
