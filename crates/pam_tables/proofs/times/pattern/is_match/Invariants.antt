use Rattle.std.proofs.Common.{◌≡◌, length}
use Rattle.pam_tables.specs.times.Pattern.{matches}
use Rattle.pam_tables.proofs.times.pattern.is_match.Given as goal

abbrev pub invariant-loop-first : goal.invariant-loop-first
invariant-loop-first l = matches l.left l.rest ≡ matches l.pattern l.text

abbrev pub decreases-loop-first : goal.decreases-loop-first
decreases-loop-first l = length l.left
