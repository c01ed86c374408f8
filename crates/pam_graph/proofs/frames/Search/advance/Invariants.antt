use Rattle.std.proofs.Common.{◌≡◌, length, take}
use Rattle.pam_graph.specs.Frames.{ahead}
use Rattle.pam_graph.specs.inner.Frames.{AreFrames}
use Rattle.pam_graph.proofs.frames.Search.advance.Given as goal

abbrev pub invariant-loop-frame : goal.invariant-loop-frame
invariant-loop-frame l = record {
  frames : AreFrames l.self.nodes.now 0 l.frames.items;
  earlier : take (length l.frames.items) l.fn.frames.items ≡ l.frames.items;
  same : ahead l.self.direction l.self.goal.now l.self.nodes.now l.fn.frames.items ≡ ahead l.self.direction l.self.goal.now l.self.nodes.now l.frames.items;
}

abbrev pub decreases-loop-frame : goal.decreases-loop-frame
decreases-loop-frame l = length l.frames.items
