use Rattle.std.proofs.Common.{◌≡◌, ◌++◌, map}
use Rattle.pam_policy.specs.text.Tests.{argument_key}
use Rattle.pam_policy.proofs.names.arguments.push_keys.Given as goal

-- the keys so far, and those of the arguments that are left
abbrev pub invariant-loop-argument : goal.invariant-loop-argument
invariant-loop-argument l =
    map (λ key. key.now) l.keys.items ++ map argument_key l.argument-iterator
    ≡ map (λ key. key.now) l.initial.keys.items ++ map argument_key l.arguments
