use Rattle.std.proofs.Common.{◌≡◌, ◌-◌, ◌≤◌, ◌∙◌, arith, ap, length, map, refl, subst, sym, take}
use Rattle.std.proofs.lemmas.List.{length-map, length-take, take-append-le}
use Rattle.pam_dispatch.specs.Flat.{modules_of}
use Rattle.pam_paths.specs.Frames.{ahead, coming, step_in}
use Rattle.pam_paths.specs.inner.Frames.{AreFirstSteps}
use Rattle.pam_paths.specs.Paths.{PathValue}
use Rattle.pam_paths.specs.Steps.{step_seen}
use Rattle.pam_paths.proofs.Counts.{counts-then}
use Rattle.pam_paths.proofs.FrameLists.{AreFrames-length}
use Rattle.pam_paths.proofs.Tails.{end-alike, end-none, first-path, first-steps, steps-told, tail-room, told-alike}
use Rattle.pam_paths.proofs.Fronts.{shared_steps}
use Rattle.pam_paths.proofs.progress.Progress.follow.Given.{Over}
use Rattle.pam_paths.proofs.progress.Progress.follow.Goals as goal
use Rattle.pam_paths.proofs.progress.Progress.follow.Goals.{After-as_slice}

pub returns-in_default-clause-stays : goal.returns-in_default-clause-stays
unfolding coming ahead
returns-in_default-clause-stays g c = rw c.in_default.ensures.next.emptied refl

-- the steps that the path shares with the one before it are those of frames that stay
within : (g : Over) (c : After-as_slice g) → c.shared_count-shared.result ≤ length c.go_on.new.self.frames.items - 1
within g c =
    let followed : c.len-2.result ≡ length c.go_on.new.self.frames.items = c.len-2.ensures.value in
    omega (arith, c.shared_count-shared.ensures.unchanged, followed)

same : (g : Over) (c : After-as_slice g) →
    take c.shared_count-shared.result (map step_seen c.path.inside.steps.items) ≡ take c.shared_count-shared.result (map step_in c.as_slice.result.now)
same g c =
    let steps = c.path.inside.steps.items in
    let seen : map step_seen steps ≡ c.args.path.now.steps = ap (λ (p : PathValue). p.steps) c.path.view_is in
    let first = subst (AreFirstSteps c.args.self.now.frames.items) (sym seen) c.requires.steps in
    let told : c.len.result ≡ length steps = c.len.ensures.value in
    let few : c.shared_count-shared.result ≤ length (map step_seen steps) =
    omega (arith, c.shared_count-shared.ensures.within, told, length-map steps step_seen) in
    shared_steps step_in _ c.args.self.now.frames.items c.go_on.new.self.frames.items c.as_slice.result.now c.shared_count-shared.result first
    c.in-Some.ensures.next.earlier (ap (take _) c.as_slice.ensures.value ∙ c.descend-rest.ensures.earlier) few (within g c)

pub retell-requires-clause-same : goal.retell-requires-clause-same
retell-requires-clause-same g c = same g (goal.at.retell-requires-clause-same g c).After-as_slice

pub retell-requires-clause-tail : goal.retell-requires-clause-tail
retell-requires-clause-tail g c = told-alike c.last-tail.result.now _ _ c.last-tail.ensures

pub returns-clause-path : goal.returns-clause-path
returns-clause-path g c =
    first-path c.args.scope.now.direction (g.K.Knowledge.allows c.args.scope.now.knowledge.now) c.args.scope.now.program.now _
    c.descend-rest.new.self.frames.items c.descend-rest.result c.retell.new.steps.items _ (c.in-Some.ensures.next.paths ∙ c.descend-rest.ensures.path)
    (steps-told _ c.as_slice.result.now c.descend-rest.new.self.frames.items c.last-tail.result.now c.modules.result (modules_of c.args.scope.now.program.now) _
    c.retell.ensures c.as_slice.ensures.value c.last-tail.ensures c.modules.ensures.count)
    c.code-path-inside.ensures

pub returns-clause-steps : goal.returns-clause-steps
returns-clause-steps g c =
    first-steps (map step_seen c.retell.new.steps.items) c.descend-rest.new.self.frames.items _
    (steps-told _ c.as_slice.result.now c.descend-rest.new.self.frames.items c.last-tail.result.now c.modules.result (modules_of c.args.scope.now.program.now) _
    c.retell.ensures c.as_slice.ensures.value c.last-tail.ensures c.modules.ensures.count)

pub invariant_of-path : goal.invariant_of-path
invariant_of-path g c = end-none _

pub invariant_of-path-2 : goal.invariant_of-path-2
invariant_of-path-2 g c =
    end-alike _ (map step_in c.as_slice.result.now) (map step_seen c.last-tail.result.now) _ _ c.retell.ensures c.last-tail.ensures

pub retell-requires-clause-few : goal.retell-requires-clause-few
retell-requires-clause-few g c =
    let long = tail-room c.last-tail.result.now _ _ c.last-tail.ensures in
    omega (arith, long, ap length c.as_slice.ensures.value, c.descend-rest.ensures.within, c.requires.exploring.few)

pub returns-clause-shared : goal.returns-clause-shared
returns-clause-shared g c =
    let told = (goal.at.returns-clause-shared g c).After-as_slice in
    let mid = c.go_on.new.self.frames.items in
    let own = map step_in c.as_slice.result.now in
    let front : length mid ≤ length c.descend-rest.new.self.frames.items =
    omega (arith, ap length c.descend-rest.ensures.earlier, length-take (length mid) c.descend-rest.new.self.frames.items) in
    let inside : c.shared_count-shared.result ≤ length own =
    omega (arith, front, within g told, ap length c.as_slice.ensures.value, length-map c.as_slice.result.now step_in) in
    ap (take c.shared_count-shared.result) c.retell.ensures
    ∙ take-append-le c.shared_count-shared.result own (map step_seen c.last-tail.result.now) inside ∙ sym (same g told)
    ∙ ap (λ (p : PathValue). take c.shared_count-shared.result p.steps) c.path.view_is

pub returns-clause-grows : goal.returns-clause-grows
returns-clause-grows g c = counts-then _ _ _ c.go_on.ensures.grows c.descend-rest.ensures.grows

pub returns-clause-work : goal.returns-clause-work
returns-clause-work g c =
    let program = c.args.scope.now.program.now in
    let k = AreFrames-length (g.K.Knowledge.allows c.args.scope.now.knowledge.now) program 0 c.descend-rest.new.self.frames.items
    (omega arith) c.descend-rest.ensures.frames in
    omega (arith, c.go_on.ensures.work, c.descend-rest.ensures.work, k)
