use Rattle.std.proofs.Common.{◌≡◌, ◌+◌, ◌≤◌, ◌++◌, [], true, cond, drop, length}
use Rattle.pam_dispatch.specs.Flat.{rest_of, runs_of, IsPlaceOf, modules_of}
use Rattle.pam_dispatch.specs.Runs.{AsksRise}
use Rattle.pam_paths.specs.inner.Retrace.{further, verdict_of}
use Rattle.pam_paths.specs.declared.direction.Direction.{Direction}
use Rattle.pam_paths.specs.Frames.{ahead}
use Rattle.pam_paths.specs.inner.Frames.{AreFrames, part, under}
use Rattle.pam_paths.proofs.retrace.retrace.Given as goal

abbrev pub invariant-loop-index : goal.invariant-loop-index
invariant-loop-index g l =
    let allows = g.K.Knowledge.allows l.scope.knowledge.now in
    let program = l.scope.program.now in
    let runs = runs_of program in
    let left = drop l.index l.codes in
    record {
      verdict : verdict_of runs l.codes ≡ further l.index (verdict_of (rest_of program l.place) left);
      frames : AreFrames allows program 0 l.frames.items;
      place : IsPlaceOf program l.place;
      rise : AsksRise l.index (modules_of program) (rest_of program l.place);
      many : length l.frames.items ≤ l.index;
      each : l.offered ≡ true → length l.frames.items ≡ l.index;
      within : l.index ≤ modules_of program;
      paths : (d : Direction) → part d allows runs l.codes
          ≡ cond l.offered (under l.frames.items (part d allows (rest_of program l.place) left)) [] ++ ahead d allows program l.frames.items;
      work : l.work ≤ l.initial.work + l.index;
    }
