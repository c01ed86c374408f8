-- the place of each decision so far
use Rattle.std.proofs.Common.{◌≡◌, map}
use Rattle.std.specs.List.{range_with_len}
use Rattle.pam_drawing.specs.picture.inner.Laned.{end_in, point_of_end}
use Rattle.pam_drawing.proofs.picture.layout.ends_of.Given as goal

abbrev pub invariant-loop-number : goal.invariant-loop-number
invariant-loop-number l =
    map point_of_end l.ends.items
    ≡ map (end_in l.measures.spaces.now.end l.measures.heights.now l.measures.grid.now.lanes.of_ends.items) (range_with_len 0 l.number)
