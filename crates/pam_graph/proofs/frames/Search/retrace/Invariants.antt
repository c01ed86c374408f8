use Rattle.std.proofs.Common.{◌≡◌, ◌++◌, drop, false, length}
use Rattle.pam_graph.specs.declared.frames.Way.{Way}
use Rattle.pam_graph.specs.Frames.{ahead, along, under}
use Rattle.pam_graph.specs.inner.Frames.{AreFrames}
use Rattle.pam_graph.specs.Order.{IsAbove, numbers_of}
use Rattle.pam_graph.specs.inner.Parts.{part}
use Rattle.pam_graph.proofs.frames.Search.retrace.Given as goal

abbrev pub invariant-loop-code : goal.invariant-loop-code
invariant-loop-code l =
    let d = l.self.direction in
    let goal = l.self.goal.now in
    let nodes = l.self.nodes.now in
    let start : Way = record { target = l.fn.start; is_met = false } in
    record {
      frames : AreFrames nodes 0 l.frames.items;
      above : IsAbove (numbers_of nodes) (length l.frames.items) l.way.target;
      same : part d l.codes (along d goal nodes start)
          ≡ under l.frames.items (part d (drop l.code-index l.codes) (along d goal nodes l.way)) ++ ahead d goal nodes l.frames.items;
    }
