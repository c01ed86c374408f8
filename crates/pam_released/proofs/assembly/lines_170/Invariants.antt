use Rattle.std.proofs.Common.{◌≡◌, ◌≤◌, ◌+◌, [], false, length, map}
use Rattle.pam_released.specs.Lines.{physical_lines}
use Rattle.pam_released.specs.Numbered.{numbered_170}
use Rattle.pam_released.specs.inner.Numbered.{line_view, with_front}
use Rattle.pam_released.proofs.assembly.lines_170.Given as goal

abbrev pub invariant-loop-line : goal.invariant-loop-line
invariant-loop-line l = record {
  found : with_front (map line_view l.assembly.lines.items)
      (numbered_170 l.closed l.assembly.number l.assembly.start l.assembly.text.items l.assembly.inside (physical_lines l.rest))
      ≡ numbered_170 l.closed 1 1 [] false (physical_lines l.source.bytes.now);
  counted : l.assembly.number + length l.rest ≤ 1048577;
}

abbrev pub decreases-loop-line : goal.decreases-loop-line
decreases-loop-line l = length l.rest
