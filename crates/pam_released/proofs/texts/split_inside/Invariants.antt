use Rattle.std.proofs.Common.{◌≡◌, ◌≤◌, length}
use Rattle.pam_released.specs.Lines.{onto_line}
use Rattle.pam_released.specs.Words.{Inside, texts_in}
use Rattle.pam_released.proofs.texts.split_inside.Given as goal

abbrev pub invariant-loop-first : goal.invariant-loop-first
invariant-loop-first l = record {
  read : onto_line l.text.items (texts_in l.feed Inside l.rest) ≡ texts_in l.feed Inside l.bytes;
  shorter : length l.rest ≤ length l.bytes;
}

abbrev pub decreases-loop-first : goal.decreases-loop-first
decreases-loop-first l = length l.rest
