use Rattle.std.proofs.Common.{◌≡◌, ◌+◌, ◌≤◌, false, length}
use Rattle.std.specs.Option.{option_map}
use Rattle.pam_codes.specs.Control.{closing_at}
use Rattle.pam_codes.proofs.control.closing_bracket.Given as goal

-- the index in the text is that in the rest, plus the number of bytes before the rest
abbrev pub invariant-loop-index : goal.invariant-loop-index
invariant-loop-index l = record {
  few : l.passed + length l.rest ≤ length l.text;
  same : closing_at false l.text ≡ option_map (λ n. l.passed + n) (closing_at false l.rest);
}

abbrev pub decreases-loop-index : goal.decreases-loop-index
decreases-loop-index l = length l.rest
