-- the value so far, and that of the arguments that are left
use Rattle.std.proofs.Common.{◌≡◌}
use Rattle.std.specs.Option.{option_map}
use Rattle.pam_tables.specs.Options.{or_else}
use Rattle.pam_policy.specs.text.Tests.{last_value}
use Rattle.pam_policy.proofs.text.test.last_value.Given as goal

abbrev pub invariant-loop-argument : goal.invariant-loop-argument
invariant-loop-argument l = or_else (last_value l.key l.argument-iterator) (option_map (λ v. v.now) l.last) ≡ last_value l.key l.arguments
