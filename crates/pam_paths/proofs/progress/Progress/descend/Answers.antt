use Rattle.std.proofs.Common.{◌<◌, ◌++◌, ℕ, Option, length, List, arith, ap, sym, ◌∙◌, subst, lit<}
use Rattle.std.specs.Prelude.{IsSome}
use Rattle.std.proofs.lemmas.Bool.{false≢true}
use Rattle.pam_dispatch.specs.Flat.{rest_of, modules_of}
use Rattle.pam_dispatch.specs.Runs.{AsksRise}
use Rattle.pam_dispatch.specs.declared.place.Place.{Place}
use Rattle.pam_paths.specs.declared.frames.Frame.{Frame}
use Rattle.pam_paths.specs.Computed.{listing}
use Rattle.pam_paths.specs.Directions.{ordered}
use Rattle.pam_paths.specs.Frames.{ahead, ahead_of}
use Rattle.pam_paths.specs.inner.Frames.{under, AreFrames, IsFrame}
use Rattle.pam_paths.proofs.Counts.{counts-then}
use Rattle.pam_paths.proofs.FrameLists.{AreFrames-length, ahead-enter, branch_followed, frame_after, frame_number, frame_same}
use Rattle.pam_paths.proofs.FrameLists.{listing-ahead, ordered-some, pushed, rise_after}
use Rattle.pam_paths.proofs.Fronts.{front_pushed}
use Rattle.pam_paths.proofs.CachedOnes.{frame_of}
use Rattle.pam_paths.proofs.Tails.{settled-path, settled-room}
use Rattle.pam_paths.proofs.progress.Progress.descend.Given.{Over}
use Rattle.pam_paths.proofs.progress.Progress.descend.Goals as goal
use Rattle.pam_paths.proofs.progress.Progress.descend.Goals.{After-at-frame}

-- the frame is that of the module asked at the place
framed : (g : Over) (c : After-at-frame g) →
    IsFrame (g.K.Knowledge.allows c.args.scope.now.knowledge.now) c.args.scope.now.program.now (length c.loop-rest.self.frames.items) c.at-frame.result
framed g c =
    let i = c.loop-rest.invariant in
    let e = c.at-frame.ensures in
    frame_of (g.K.Knowledge.allows c.args.scope.now.knowledge.now) c.args.scope.now.program.now (length c.loop-rest.self.frames.items) c.at-frame.result
    c.loop-rest.self.place c.in-Some-module.module_number c.at-classes.result e.place e.number e.classes e.code i.place
    (sym (c.in-Some-module.ensures c.args.scope.now.program.now i.place)) i.rise c.at-classes.ensures.offered c.at-classes.ensures.classes

pub push-requires : goal.push-requires
push-requires g c =
    let i = c.loop-rest.invariant in
    let program = c.args.scope.now.program.now in
    let asked = sym (c.in-Some-module.ensures program i.place) in
    let k = rise_after _ (modules_of program) _ 0 _ i.rise asked in
    let room : length c.loop-rest.self.frames.items < 256 = omega (arith, k.0, k.1, c.requires.few) in
    (lit< tt, room)

pub loop-rest-smaller : goal.loop-rest-smaller
loop-rest-smaller g c =
    let i = c.loop-rest.invariant in
    let program = c.args.scope.now.program.now in
    let asked = sym (c.in-Some-module.ensures program i.place) in
    let k = rise_after _ (modules_of program) _ 0 _ i.rise asked in
    omega (arith, c.push.ensures.len, k.0, k.1)

-- a run that is not settled asks a module
pub unreachable-requires : goal.unreachable-requires
unreachable-requires g c =
    let i = c.loop-rest.invariant in
    let none = sym (c.module.ensures c.args.scope.now.program.now i.place) ∙ c.in_default-module.is in
    false≢true (subst (λ (o : Option ℕ). IsSome o) none c.in_default.ensures.asking)

pub unreachable-requires-in-None : goal.unreachable-requires-in-None
unreachable-requires-in-None g c =
    let i = c.loop-rest.invariant in
    let allows = g.K.Knowledge.allows c.args.scope.now.knowledge.now in
    let program = c.args.scope.now.program.now in
    let d = c.args.scope.now.direction in
    let r = rest_of program c.loop-rest.self.place in
    let asked = sym (c.in-Some-module.ensures program i.place) in
    let is = framed g (goal.at.unreachable-requires-in-None g c).After-at-frame in
    ordered-some d allows _ (modules_of program) r i.rise
    (λ m first last. g.met.K.Knowledge.lawful c.args.scope.now.knowledge.now m first (omega (arith, last, c.requires.few)))
    (listing-ahead d allows r c.in-Some-module.module_number asked
    ∙ ap (ahead_of d allows r) (sym c.outset-outset.ensures.value)
    ∙ ap (λ (x : Place). ahead_of d allows (rest_of program x) c.outset-outset.result) (sym c.at-frame.ensures.place)
    ∙ c.in-None.ensures.none allows is.offered)

pub loop-rest-preserved : goal.loop-rest-preserved
loop-rest-preserved g c =
    let i = c.loop-rest.invariant in
    let allows = g.K.Knowledge.allows c.args.scope.now.knowledge.now in
    let program = c.args.scope.now.program.now in
    let d = c.args.scope.now.direction in
    let fs = c.loop-rest.self.frames.items in
    let b = c.in-Some-branch_ahead.branch in
    let next = c.branch_ahead.new.place in
    let e = c.in-Some-branch_ahead.ensures in
    let f : Frame = c.at-frame.result in
    let h : Frame = c.following.result in
    let k = c.following.ensures in
    let is : IsFrame allows program (length fs) f = framed g (goal.at.loop-rest-preserved g c).After-at-frame in
    let low : h.code < 31 = omega (arith, k.code, e.code) in
    let r = rest_of program f.place in
    let below = ordered d (listing allows (rest_of program next)) in
    record {
      frames = subst (λ x. AreFrames allows program 0 x) (sym c.push.ensures.items)
          (pushed allows program fs h i.frames (frame_same allows program (length fs) f h is k.place k.number k.classes low));
      place = e.place;
      rise = subst (λ x. AsksRise x (modules_of program) (rest_of program next)) (sym c.push.ensures.len)
          (frame_after allows program (length fs) f b.code next is e.rest);
      earlier = front_pushed c.args.self.now.frames.items fs _ h i.earlier c.push.ensures.items;
      same = i.same
          ∙ ahead-enter d allows program fs h below (ordered d (listing allows (rest_of program c.loop-rest.self.place)))
          (ap (λ (x : Place). ordered d (listing allows (rest_of program x))) (sym c.at-frame.ensures.place)
          ∙ listing-ahead d allows r f.module_number is.asking
          ∙ ap (ahead_of d allows r) (sym c.outset-outset.ensures.value)
          ∙ branch_followed d allows program r f h c.outset-outset.result b.code b.class below
          (ap (λ (x : Place). rest_of program x) (sym k.place)) k.number k.code k.class
          (e.paths allows is.offered))
          ∙ ap (λ (x : List Frame). under x below ++ ahead d allows program x) (sym c.push.ensures.items);
      cache = c.at-classes.ensures.cache;
      work = omega (arith, c.push.ensures.len, c.branch_ahead.ensures.work, i.work);
      grows = counts-then _ _ _ i.grows c.branch_ahead.ensures.grows;
    }

pub branch_ahead-requires-clause-classes : goal.branch_ahead-requires-clause-classes
branch_ahead-requires-clause-classes g c = (framed g (goal.at.branch_ahead-requires-clause-classes g c).After-at-frame).classes

pub branch_ahead-requires-clause-first : goal.branch_ahead-requires-clause-first
branch_ahead-requires-clause-first g c =
    omega (arith, (frame_number _ _ _ _ (framed g (goal.at.branch_ahead-requires-clause-first g c).After-at-frame)).0)

pub branch_ahead-requires-clause-last : goal.branch_ahead-requires-clause-last
branch_ahead-requires-clause-last g c =
    (frame_number _ _ _ _ (framed g (goal.at.branch_ahead-requires-clause-last g c).After-at-frame)).1

pub at-classes-requires-clause-first : goal.at-classes-requires-clause-first
at-classes-requires-clause-first g c =
    let i = c.loop-rest.invariant in
    let k = rise_after _ (modules_of c.args.scope.now.program.now) _ 0 _ i.rise (sym (c.in-Some-module.ensures c.args.scope.now.program.now i.place)) in
    omega (arith, k.0)

pub at-classes-requires-clause-last : goal.at-classes-requires-clause-last
at-classes-requires-clause-last g c =
    let i = c.loop-rest.invariant in
    (rise_after _ (modules_of c.args.scope.now.program.now) _ 0 _ i.rise (sym (c.in-Some-module.ensures c.args.scope.now.program.now i.place))).1

pub at-frame-requires : goal.at-frame-requires
at-frame-requires g c =
    let i = c.loop-rest.invariant in
    let k = rise_after _ (modules_of c.args.scope.now.program.now) _ 0 _ i.rise (sym (c.in-Some-module.ensures c.args.scope.now.program.now i.place)) in
    omega (arith, k.1, c.requires.few)

pub returns-in-Some-clause-path : goal.returns-in-Some-clause-path
returns-in-Some-clause-path g c =
    let i = c.loop-rest.invariant in
    let program = c.args.scope.now.program.now in
    i.same
    ∙ settled-path c.args.scope.now.direction (g.K.Knowledge.allows c.args.scope.now.knowledge.now) program c.loop-rest.self.frames.items
    (rest_of program c.loop-rest.self.place) c.in-Some.rest
    (λ m first last. g.met.K.Knowledge.lawful c.args.scope.now.knowledge.now m first (omega (arith, last, c.requires.few)))
    c.in-Some.ensures.settled c.in-Some.ensures.decision c.in-Some.ensures.within

pub returns-in-Some-clause-within : goal.returns-in-Some-clause-within
returns-in-Some-clause-within g c =
    let i = c.loop-rest.invariant in
    let program = c.args.scope.now.program.now in
    let fs = c.loop-rest.self.frames.items in
    settled-room (length fs) (modules_of program) c.in-Some.rest.modules _ (rest_of program c.loop-rest.self.place) i.rise c.in-Some.ensures.settled
    c.in-Some.ensures.within (AreFrames-length (g.K.Knowledge.allows c.args.scope.now.knowledge.now) program 0 fs (omega arith) i.frames)
