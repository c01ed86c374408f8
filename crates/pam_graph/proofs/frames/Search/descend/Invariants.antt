use Rattle.std.proofs.Common.{◌≡◌, ◌≢◌, ◌++◌, [], length, take}
use Rattle.pam_graph.specs.declared.frames.Way.{Way}
use Rattle.pam_graph.specs.Frames.{ahead, along, under}
use Rattle.pam_graph.specs.inner.Frames.{AreFrames}
use Rattle.pam_graph.specs.Order.{IsAbove, numbers_of}
use Rattle.pam_graph.specs.inner.Within.{height}
use Rattle.pam_graph.proofs.frames.Search.descend.Given as goal

abbrev pub invariant-loop-target : goal.invariant-loop-target
invariant-loop-target l =
    let d = l.self.direction in
    let goal = l.self.goal.now in
    let nodes = l.self.nodes.now in
    let way : Way = record { target = l.target; is_met = l.is_met } in
    record {
      frames : AreFrames nodes 0 l.frames.items;
      wanted : along d goal nodes way ≢ [];
      above : IsAbove (numbers_of nodes) (length l.frames.items) l.target;
      earlier : take (length l.fn.frames.items) l.frames.items ≡ l.fn.frames.items;
      same : under l.fn.frames.items (along d goal nodes l.fn.way) ++ ahead d goal nodes l.fn.frames.items
          ≡ under l.frames.items (along d goal nodes way) ++ ahead d goal nodes l.frames.items;
    }

abbrev pub decreases-loop-target : goal.decreases-loop-target
decreases-loop-target l = height l.target
