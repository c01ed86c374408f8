use Rattle.std.proofs.Common.{◌≡◌, length}
use Rattle.std.specs.Option.{option_map}
use Rattle.pam_tables.specs.times.Entry.{mentions, day_set}
use Rattle.pam_tables.proofs.TimesProofs.EntrySteps.{flips}
use Rattle.pam_tables.proofs.times.entry.days.Given as goal

abbrev pub invariant-loop-rest : goal.invariant-loop-rest
invariant-loop-rest l = option_map (flips l.days) (mentions l.rest) ≡ option_map day_set (mentions l.fn.text)

abbrev pub decreases-loop-rest : goal.decreases-loop-rest
decreases-loop-rest l = length l.rest
