use Rattle.std.proofs.Common.{◌++◌}
use Rattle.pam_graph.specs.declared.frames.Way.{Way}
use Rattle.pam_graph.specs.Frames.{ahead, along, under}
use Rattle.pam_graph.proofs.Following.{coming-ahead, coming-on, told-none, told-walks}
use Rattle.pam_graph.proofs.frames.Search.go_on.Goals as goal

pub returns-in-Some-clause-walks : goal.returns-in-Some-clause-walks
returns-in-Some-clause-walks c =
    let s = c.args.self.now in
    coming-on s.direction s.goal.now s.nodes.now c.args.pending c.args.frames.now.items c.in-Some.way c.in-Some.ensures.way

pub returns-in-None-clause-none : goal.returns-in-None-clause-none
returns-in-None-clause-none c =
    let s = c.args.self.now in
    told-none c.advance.result _ _
    (coming-ahead s.direction s.goal.now s.nodes.now c.args.pending c.args.frames.now.items c.in-None.ensures.none) c.advance.ensures.none

pub returns-in-None-clause-walks : goal.returns-in-None-clause-walks
returns-in-None-clause-walks c =
    let s = c.args.self.now in
    let new = c.advance.new.frames.items in
    told-walks c.advance.result _ _
    (λ (way : Way). under new (along s.direction s.goal.now s.nodes.now way) ++ ahead s.direction s.goal.now s.nodes.now new)
    (coming-ahead s.direction s.goal.now s.nodes.now c.args.pending c.args.frames.now.items c.in-None.ensures.none) c.advance.ensures.walks
