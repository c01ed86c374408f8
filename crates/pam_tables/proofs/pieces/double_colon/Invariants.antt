use Rattle.std.proofs.Common.{◌≡◌, drop}
use Rattle.pam_tables.specs.Address.{double_colon}
use Rattle.pam_tables.proofs.PieceSteps.{after}
use Rattle.pam_tables.proofs.pieces.double_colon.Given as goal

abbrev pub invariant-loop-place : goal.invariant-loop-place
invariant-loop-place l = after l.place l.text (double_colon (drop l.place l.text)) ≡ double_colon l.text
