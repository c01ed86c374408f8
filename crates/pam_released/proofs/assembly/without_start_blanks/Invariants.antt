use Rattle.std.proofs.Common.{◌≡◌, length}
use Rattle.pam_released.specs.Lines.{without_start_blanks}
use Rattle.pam_released.proofs.assembly.without_start_blanks.Given as goal

abbrev pub invariant-loop-first : goal.invariant-loop-first
invariant-loop-first l = without_start_blanks l.text ≡ without_start_blanks l.rest

abbrev pub decreases-loop-first : goal.decreases-loop-first
decreases-loop-first l = length l.rest
