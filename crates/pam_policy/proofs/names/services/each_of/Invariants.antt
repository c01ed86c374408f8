use Rattle.std.proofs.Common.{◌≡◌, ◌++◌, map}
use Rattle.pam_policy.proofs.names.services.each_of.Given as goal

-- the names so far, and those that are left
abbrev pub invariant-loop-text : goal.invariant-loop-text
invariant-loop-text l = map (λ n. n.now) l.names.items ++ l.text-iterator ≡ l.texts
