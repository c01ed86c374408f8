use Rattle.std.proofs.Common.{◌∙◌}
use Rattle.pam_graph.proofs.FrameLists.{ahead-end}
use Rattle.pam_graph.proofs.frames.Search.descend.Goals as goal

pub returns-in-End-clause-walk : goal.returns-in-End-clause-walk
returns-in-End-clause-walk c =
    let s = c.args.self.now in
    c.loop-target.invariant.same
    ∙ ahead-end s.direction s.goal.now s.nodes.now c.loop-target.frames.items (record { target = c.loop-target.target; is_met = c.loop-target.is_met })
    c.in-End.decision c.in-End.is c.loop-target.invariant.wanted
