-- the edges so far leave from the lanes of their nodes
use Rattle.std.proofs.Common.{◌≡◌, map}
use Rattle.std.specs.List.{range_with_len}
use Rattle.pam_drawing.specs.picture.inner.Laned.{lane_of, number_at}
use Rattle.pam_drawing.proofs.picture.layout.ports.all_ports.Given as goal

abbrev pub invariant-loop-index : goal.invariant-loop-index
invariant-loop-index l = map lane_of l.all.items ≡ map (number_at l.grid.lanes.of_nodes.items) (range_with_len 0 l.index)
