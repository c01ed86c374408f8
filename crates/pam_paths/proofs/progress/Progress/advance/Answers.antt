use Rattle.std.proofs.Common.{rules, ◌≡◌, ◌+◌, ◌-◌, ◌<◌, ◌∷◌, ◌++◌, [], ℕ, get_or, length, List, arith, ap, refl, sym, ◌∙◌, subst, take}
use Rattle.std.proofs.lemmas.List.{length-append, nil_from_length}
use Rattle.pam_dispatch.specs.Flat.{modules_of, rest_of}
use Rattle.pam_dispatch.specs.Runs.{AsksRise}
use Rattle.pam_dispatch.specs.declared.place.Place.{Place}
use Rattle.pam_paths.specs.declared.frames.Frame.{Frame}
use Rattle.pam_paths.specs.Computed.{listing}
use Rattle.pam_paths.specs.Directions.{ordered}
use Rattle.pam_paths.specs.inner.Followed.{followed}
use Rattle.pam_paths.specs.Frames.{ahead, ahead_of}
use Rattle.pam_paths.specs.inner.Frames.{under, AreFrames}
use Rattle.pam_paths.proofs.Counts.{counts-then}
use Rattle.pam_paths.proofs.FrameLists.{ahead-next, ahead-none, branch_followed, frame_after}
use Rattle.pam_paths.proofs.Fronts.{front_changed, front_popped}
use Rattle.pam_paths.proofs.LastFrames.{LastFrame, followed_last, last_frame}
use Rattle.pam_paths.proofs.progress.Progress.advance.Given.{Over}
use Rattle.pam_paths.proofs.progress.Progress.advance.Goals as goal
use Rattle.pam_paths.proofs.progress.Progress.advance.Goals.{After-past-bound}

-- the last of the frames that are left
last : (g : Over) (c : After-past-bound g) →
    LastFrame (g.K.Knowledge.allows c.args.scope.now.knowledge.now) c.args.scope.now.program.now c.loop-self.self.frames.items
    c.len-last.result c.index-as_slice-last.result
last g c =
    last_frame (g.K.Knowledge.allows c.args.scope.now.knowledge.now) c.args.scope.now.program.now c.loop-self.self.frames.items c.len-last.result
    c.index-as_slice-last.result c.len-last.ensures.value (search rules) c.loop-self.invariant.frames c.as_slice.result.now
    c.as_slice.ensures.value c.index-as_slice-last.is

pub branch_ahead-requires : goal.branch_ahead-requires
branch_ahead-requires g c =
    let k = last g (goal.at.branch_ahead-requires g c).After-past-bound in
    record { place = k.is.place; asking = k.is.asking; first = k.first; last = k.last; classes = k.is.classes; bound = c.past-bound.ensures.range }

pub returns-in-Some : goal.returns-in-Some
returns-in-Some g c =
    let allows = g.K.Knowledge.allows c.args.scope.now.knowledge.now in
    let program = c.args.scope.now.program.now in
    let d = c.args.scope.now.direction in
    let i = c.loop-self.invariant in
    let items = c.loop-self.self.frames.items in
    let n = c.len-last.result in
    let count = c.len-last.ensures.value in
    let some : 0 < n = search rules in
    let f = c.index-as_slice-last.result in
    let b = c.in-Some.branch in
    let next = c.branch_ahead.new.place in
    let h = followed f b in
    let of = c.in-Some.ensures in
    let at_last = c.index-as_slice-last.is ∙ ap (λ (l : List Frame). get_or l (n - 1) f) c.as_slice.ensures.value in
    let k = followed_last allows program items n f count some i.frames c.as_slice.result.now c.follow.new.self.items b
    c.as_slice.ensures.value c.index-as_slice-last.is of.code (c.follow.ensures f at_last) in
    let fs = take (n - 1) items in
    let r = rest_of program f.place in
    let below = ordered d (listing allows (rest_of program next)) in
    let at : n - 1 ≡ length items - 1 = ap (λ (x : ℕ). x - 1) count in
    let longer : length fs + 1 ≡ length (fs ++ h ∷ []) = sym (length-append fs (h ∷ [])) in
    record {
      next = record {
        none = tt;
        emptied = tt;
        place = of.place;
        frames = k.frames;
        rise = subst (λ x. AsksRise x (modules_of program) (rest_of program next)) (longer ∙ ap (λ (l : List Frame). length l) (sym k.is))
            (frame_after allows program (length fs) f b.code next k.was.is of.rest);
        earlier = front_changed c.args.self.now.frames.items fs _ h
            (front_popped c.args.self.now.frames.items items fs i.earlier (ap (λ (x : ℕ). take x items) at)) k.is;
        paths = i.same
            ∙ ap (λ (x : List Frame). ahead d allows program x) k.was.split
            ∙ ahead-next d allows program fs f h below
            (ap (ahead_of d allows r) (sym c.past-bound.ensures.value)
            ∙ branch_followed d allows program r f h c.past-bound.result b.code b.class below
            (ap (λ (x : Place). rest_of program x) (sym k.place)) k.number refl refl (of.paths allows k.was.is.offered))
            ∙ ap (λ (x : List Frame). under x below ++ ahead d allows program x) (sym k.is);
      };
      cache = i.cache;
      work = omega (arith, i.work, c.branch_ahead.ensures.work, count, some);
      grows = counts-then _ _ _ i.grows c.branch_ahead.ensures.grows;
    }

pub loop-self-smaller : goal.loop-self-smaller
loop-self-smaller g c =
    let some : 0 < c.len-last.result = search rules in
    omega (arith, c.truncate.ensures.len, c.len-last.ensures.value, some)

pub loop-self-preserved : goal.loop-self-preserved
loop-self-preserved g c =
    let i = c.loop-self.invariant in
    let n = c.len-last.result in
    let some : 0 < n = search rules in
    let allows = g.K.Knowledge.allows c.args.scope.now.knowledge.now in
    let k = last g (goal.at.loop-self-preserved g c).After-past-bound in
    let d = c.args.scope.now.direction in
    let program = c.args.scope.now.program.now in
    let items = c.loop-self.self.frames.items in
    let f = c.index-as_slice-last.result in
    let fs = c.truncate.new.self.items in
    let rest : fs ≡ take (n - 1) items = c.truncate.ensures.items in
    let at : n - 1 ≡ length items - 1 = ap (λ (x : ℕ). x - 1) c.len-last.ensures.value in
    record {
      frames = subst (AreFrames allows program 0) (sym rest) k.earlier;
      earlier = front_popped c.args.self.now.frames.items items fs i.earlier (rest ∙ ap (λ (x : ℕ). take x items) at);
      same = i.same
          ∙ ap (λ (x : List Frame). ahead d allows program x) k.split
          ∙ ahead-none d allows program (take (n - 1) items) f
          (ap (ahead_of d allows (rest_of program f.place)) (sym c.past-bound.ensures.value) ∙ c.in_default.ensures.none allows k.is.offered)
          ∙ ap (λ (x : List Frame). ahead d allows program x) (sym rest);
      cache = i.cache;
      work = omega (arith, i.work, c.branch_ahead.ensures.work, c.truncate.ensures.len, c.len-last.ensures.value, some);
      grows = counts-then _ _ _ i.grows c.branch_ahead.ensures.grows;
    }

pub returns-clause-next : goal.returns-clause-next
unfolding ahead
returns-clause-next g c =
    let items = c.loop-self.self.frames.items in
    let i = c.loop-self.invariant in
    let none : length items ≡ 0 = search rules in
    let empty : items ≡ [] = nil_from_length items none in
    record {
      none = i.same ∙ ap (ahead c.args.scope.now.direction (g.K.Knowledge.allows c.args.scope.now.knowledge.now) c.args.scope.now.program.now) empty;
      emptied = empty;
      place = tt;
      frames = i.frames;
      rise = tt;
      earlier = subst (λ (x : List Frame). take (length x - 1) x ≡ take (length x - 1) c.args.self.now.frames.items) (sym empty) refl;
      paths = tt;
    }
