use Rattle.std.proofs.Common.{◌≡◌, ◌+◌, ◌≤◌, length, take}
use Rattle.pam_paths.specs.Frames.{ahead}
use Rattle.pam_paths.specs.inner.Frames.{AreFrames}
use Rattle.pam_paths.specs.inner.Work.{CountsOn}
use Rattle.pam_paths.proofs.progress.Progress.advance.Given as goal

abbrev pub invariant-loop-self : goal.invariant-loop-self
invariant-loop-self g l =
    let allows = g.K.Knowledge.allows l.scope.knowledge.now in
    let program = l.scope.program.now in
    record {
      frames : AreFrames allows program 0 l.self.frames.items;
      earlier : take (length l.self.frames.items) l.initial.self.frames.items ≡ l.self.frames.items;
      same : ahead l.scope.direction allows program l.initial.self.frames.items ≡ ahead l.scope.direction allows program l.self.frames.items;
      cache : l.self.cache ≡ l.initial.self.cache;
      work : l.self.work + length l.self.frames.items ≤ l.initial.self.work + length l.initial.self.frames.items;
      grows : CountsOn l.initial.self.work l.self.work;
    }

abbrev pub decreases-loop-self : goal.decreases-loop-self
decreases-loop-self g l = length l.self.frames.items
