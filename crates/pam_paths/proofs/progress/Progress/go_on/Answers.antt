use Rattle.std.proofs.Common.{arith, refl, rules}
use Rattle.pam_paths.proofs.FrameLists.{AreFrames-length, coming-ahead, coming-all}
use Rattle.pam_paths.proofs.progress.Progress.go_on.Goals as goal

pub returns-then-at_start-clause-next : goal.returns-then-at_start-clause-next
returns-then-at_start-clause-next g c =
    record {
      none = tt;
      emptied = tt;
      place = search rules;
      frames = c.requires.exploring.valid;
      rise = search rules;
      earlier = refl;
      paths = coming-all c.args.scope.now.direction (g.K.Knowledge.allows c.args.scope.now.knowledge.now) c.args.scope.now.program.now c.args.at_start
          c.args.self.now.frames.items c.first-self.result c.if-at_start.true c.requires.exploring c.first-self.ensures.whole;
    }

pub returns-clause-next : goal.returns-clause-next
returns-clause-next g c =
    let allows = g.K.Knowledge.allows c.args.scope.now.knowledge.now in
    rw (coming-ahead c.args.scope.now.direction allows c.args.scope.now.program.now c.args.at_start c.args.self.now.frames.items c.if-at_start.false)
    c.advance.ensures.next

pub returns-clause-work : goal.returns-clause-work
returns-clause-work g c =
    let k = AreFrames-length (g.K.Knowledge.allows c.args.scope.now.knowledge.now) c.args.scope.now.program.now 0 c.args.self.now.frames.items
    (omega arith) c.requires.exploring.valid in
    omega (arith, c.advance.ensures.work, k)
