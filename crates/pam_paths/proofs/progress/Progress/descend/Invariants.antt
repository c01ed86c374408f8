use Rattle.std.proofs.Common.{◌≡◌, ◌+◌, ◌-◌, ◌≤◌, ◌++◌, length, take}
use Rattle.pam_dispatch.specs.Flat.{rest_of, IsPlaceOf, modules_of}
use Rattle.pam_dispatch.specs.Runs.{AsksRise}
use Rattle.pam_paths.specs.Computed.{listing}
use Rattle.pam_paths.specs.Directions.{ordered}
use Rattle.pam_paths.specs.Frames.{ahead}
use Rattle.pam_paths.specs.inner.Frames.{under, AreFrames}
use Rattle.pam_paths.specs.Cached.{AreCached}
use Rattle.pam_paths.specs.inner.Work.{CountsOn}
use Rattle.pam_paths.proofs.progress.Progress.descend.Given as goal

abbrev pub invariant-loop-rest : goal.invariant-loop-rest
invariant-loop-rest g l =
    let allows = g.K.Knowledge.allows l.scope.knowledge.now in
    let d = l.scope.direction in
    let program = l.scope.program.now in
    let first = l.initial.self.frames.items in
    let items = l.self.frames.items in
    record {
      frames : AreFrames allows program 0 items;
      place : IsPlaceOf program l.self.place;
      rise : AsksRise (length items) (modules_of program) (rest_of program l.self.place);
      earlier : take (length first) items ≡ first;
      same : under first (ordered d (listing allows (rest_of program l.initial.self.place))) ++ ahead d allows program first
          ≡ under items (ordered d (listing allows (rest_of program l.self.place))) ++ ahead d allows program items;
      cache : AreCached allows program l.self.cache.modules;
      work : l.self.work + length first ≤ l.initial.self.work + length items;
      grows : CountsOn l.initial.self.work l.self.work;
    }

abbrev pub decreases-loop-rest : goal.decreases-loop-rest
decreases-loop-rest g l = modules_of l.scope.program.now - length l.self.frames.items
