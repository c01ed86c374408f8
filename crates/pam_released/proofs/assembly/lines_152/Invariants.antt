use Rattle.std.proofs.Common.{◌≡◌, ◌≤◌, ◌+◌, [], false, length, map}
use Rattle.pam_released.specs.Numbered.{numbered_152}
use Rattle.pam_released.specs.inner.Numbered.{line_view, with_front}
use Rattle.pam_released.proofs.assembly.lines_152.Given as goal

abbrev pub invariant-loop-piece : goal.invariant-loop-piece
invariant-loop-piece l = record {
  found : with_front (map line_view l.assembly.lines.items)
      (numbered_152 l.assembly.number l.assembly.start l.assembly.text.items [] l.assembly.inside l.rest)
      ≡ numbered_152 1 1 [] [] false l.source.bytes.now;
  counted : l.assembly.number + length l.rest ≤ 1048577;
}

abbrev pub decreases-loop-piece : goal.decreases-loop-piece
decreases-loop-piece l = length l.rest
