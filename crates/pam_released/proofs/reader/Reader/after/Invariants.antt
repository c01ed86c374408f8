use Rattle.std.proofs.Common.{◌≡◌, drop}
use Rattle.pam_released.specs.Bracket.{after}
use Rattle.pam_released.specs.Reader.{state_of}
use Rattle.pam_released.proofs.reader.Reader.after.Given as goal

abbrev pub invariant-loop-byte : goal.invariant-loop-byte
invariant-loop-byte l = after (state_of l.reader) (drop l.byte-index l.text) ≡ after (state_of l.fn.self) l.text
