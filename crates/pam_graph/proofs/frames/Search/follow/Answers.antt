use Rattle.std.proofs.Common.{◌≡◌, ◌-◌, ◌≤◌, ◌∷◌, ◌∙◌, List, arith, ap, length, map, refl, slice_index_or, subst, sym, take}
use Rattle.std.proofs.lemmas.List.{length-map}
use Rattle.pam_conf.specs.declared.stack.TheConstants.{MAX_MODULES}
use Rattle.pam_graph.specs.declared.frames.Frame.{Frame}
use Rattle.pam_graph.specs.Frames.{ahead, coming, step_in}
use Rattle.pam_graph.proofs.Following.{frames-most, walk-told}
use Rattle.pam_graph.proofs.frames.Search.follow.Goals as goal
use Rattle.pam_graph.proofs.frames.Search.follow.Goals.{After-as_slice}
use Rattle.pam_paths.specs.Paths.{PathValue}
use Rattle.pam_paths.specs.Steps.{step_seen}
use Rattle.pam_paths.proofs.Fronts.{shared_steps}

pub returns-in_default-clause-stays : goal.returns-in_default-clause-stays
unfolding coming ahead
returns-in_default-clause-stays c = rw c.in_default.ensures.emptied refl

pub push_steps-requires-clause-numbers : goal.push_steps-requires-clause-numbers
push_steps-requires-clause-numbers c k d l =
    let s = c.args.self.now in
    subst (λ (x : List Frame). (slice_index_or x k d).module_number ≤ MAX_MODULES) (sym c.as_slice.ensures.value)
    (frames-most s.nodes.now 0 c.descend-decision.new.frames.items k d c.requires.search.order c.descend-decision.ensures.frames
    (omega (arith, l, ap length c.as_slice.ensures.value)))

-- the steps that the walk shares with the one before it
same : (c : After-as_slice) →
    take c.shared_count-shared.result c.args.path.now.steps ≡ take c.shared_count-shared.result (map step_in c.as_slice.result.now)
same c =
    let few : c.shared_count-shared.result ≤ length c.args.path.now.steps =
    omega (arith, c.shared_count-shared.ensures.within, length-map c.steps.result.now step_seen, ap length c.steps.ensures) in
    let within : c.shared_count-shared.result ≤ length c.go_on.new.frames.items - 1 =
    omega (arith, c.shared_count-shared.ensures.unchanged, c.len.ensures.value) in
    shared_steps step_in c.args.path.now.steps c.args.frames.now.items c.go_on.new.frames.items c.descend-decision.new.frames.items c.shared_count-shared.result
    c.requires.steps c.in-Some.ensures.earlier c.descend-decision.ensures.earlier few within
    ∙ ap (λ (x : List Frame). take c.shared_count-shared.result (map step_in x)) (sym c.as_slice.ensures.value)

pub push_steps-requires-clause-same : goal.push_steps-requires-clause-same
push_steps-requires-clause-same c = c.truncate-2.ensures.steps ∙ same (goal.at.push_steps-requires-clause-same c).After-as_slice

pub returns-clause-path : goal.returns-clause-path
unfolding coming
returns-clause-path c =
    let s = c.args.self.now in
    let new = c.descend-decision.new.frames.items in
    c.in-Some.ensures.walks ∙ c.descend-decision.ensures.walk
    ∙ ap (λ (x : PathValue). x ∷ ahead s.direction s.goal.now s.nodes.now new)
    (walk-told c.decide.new.self new c.descend-decision.result
    (c.decide.ensures.steps ∙ c.push_steps.ensures ∙ ap (map step_in) c.as_slice.ensures.value) c.decide.ensures.decision)

pub returns-clause-shared : goal.returns-clause-shared
returns-clause-shared c =
    ap (take c.shared_count-shared.result) (c.decide.ensures.steps ∙ c.push_steps.ensures)
    ∙ sym (same (goal.at.returns-clause-shared c).After-as_slice)
