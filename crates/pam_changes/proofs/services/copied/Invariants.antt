use Rattle.std.proofs.Common.{◌≡◌, ◌++◌}
use Rattle.pam_changes.proofs.services.copied.Given as goal

abbrev pub invariant-loop-text : goal.invariant-loop-text
invariant-loop-text l = l.copy ++ l.text-iterator ≡ l.texts
