-- what is left has the same open bracket
use Rattle.std.proofs.Common.{◌≡◌, ◌+◌, length}
use Rattle.std.specs.Option.{option_map}
use Rattle.pam_findings.specs.misspelled.Open.{open_piece}
use Rattle.pam_findings.proofs.MisspelledProofs.Pieces.{shifted}
use Rattle.pam_findings.proofs.misspelled.open.open_piece.Given as goal

abbrev pub invariant-loop-word : goal.invariant-loop-word
invariant-loop-word l = record {
  moved : l.passed + length l.rest ≡ length l.line;
  there : option_map (shifted l.passed) (open_piece l.rest) ≡ open_piece l.line;
}

abbrev pub decreases-loop-word : goal.decreases-loop-word
decreases-loop-word l = length l.rest
