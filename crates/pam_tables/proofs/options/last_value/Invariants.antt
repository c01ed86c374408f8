use Rattle.std.proofs.Common.{◌≡◌}
use Rattle.std.specs.Option.{option_map}
use Rattle.pam_tables.specs.Options.{last_value, or_else}
use Rattle.pam_tables.proofs.options.last_value.Given as goal

abbrev pub invariant-loop-argument : goal.invariant-loop-argument
invariant-loop-argument l = or_else (last_value l.key l.argument-iterator) (option_map (λ v. v.now) l.last) ≡ last_value l.key l.arguments
