use Rattle.std.proofs.Common.{◌+◌, ◌∙◌, ◌++◌, ◌∷◌, List, Option, ℕ, ap, append-nil, drop, false, length, map, slice_index_or, subst, sym, true}
use Rattle.std.proofs.lemmas.List.{drop_all, drop_more}
use Rattle.pam_graph.specs.declared.frames.Frame.{Frame}
use Rattle.pam_graph.specs.declared.frames.Way.{Way}
use Rattle.pam_graph.specs.declared.node.Target.{Target}
use Rattle.pam_graph.specs.Frames.{ahead, along, coming, step_in, under}
use Rattle.pam_graph.specs.inner.Frames.{AreFrames}
use Rattle.pam_graph.specs.Order.{IsAbove, numbers_of}
use Rattle.pam_graph.specs.inner.Parts.{is_past_end, part, part_along}
use Rattle.pam_graph.proofs.Turning.{past-end, past-key, taken}
use Rattle.pam_graph.proofs.frames.Search.retrace.Goals as goal
use Rattle.pam_paths.specs.Computed.{after_steps}
use Rattle.pam_paths.specs.Paths.{PathValue}
use Rattle.pam_paths.proofs.FrameLists.{after_steps-nil}

pub loop-code-init : goal.loop-code-init
unfolding AreFrames after_steps ahead
loop-code-init c =
    let s = c.args.self.now in
    let start : Way = record { target = c.args.start; is_met = false } in
    let all = part s.direction c.args.codes.now (along s.direction s.goal.now s.nodes.now start) in
    record {
      frames = subst (AreFrames s.nodes.now 0) (sym c.requires.none) tt;
      above = subst (λ (x : List Frame). IsAbove (numbers_of s.nodes.now) (length x) c.args.start) (sym c.requires.none) c.requires.start;
      same = sym (append-nil all) ∙ ap (λ (x : List Frame). under x all ++ ahead s.direction s.goal.now s.nodes.now x) (sym c.requires.none);
    }

pub returns-in_default-clause-walks : goal.returns-in_default-clause-walks
returns-in_default-clause-walks c =
    let s = c.args.self.now in
    let way = c.loop-code.way in
    let frames = c.loop-code.frames.items in
    let codes = c.args.codes.now in
    let i = c.loop-code.code-index in
    sym (c.loop-code.invariant.same
    ∙ ap (λ (x : List PathValue). under frames x ++ ahead s.direction s.goal.now s.nodes.now frames)
    (ap (λ (k : List ℕ). part s.direction k (along s.direction s.goal.now s.nodes.now way)) (drop_more codes i 0 c.loop-code-test.true)
    ∙ past-end s.direction s.goal.now s.nodes.now way.is_met way.target c.in_default.field-0 (slice_index_or codes i 0) (drop (i + 1) codes) c.in_default.is)
    ∙ taken s.direction s.goal.now s.nodes.now frames way (is_past_end s.direction true way.target)
    ∙ ap (λ (p : Option Way). coming s.direction s.goal.now s.nodes.now p frames) (sym c.way_past.ensures))

pub returns-in_default-retrace_code-clause-walks : goal.returns-in_default-retrace_code-clause-walks
unfolding coming
returns-in_default-retrace_code-clause-walks c =
    let s = c.args.self.now in
    let way = c.loop-code.way in
    let codes = c.args.codes.now in
    let i = c.loop-code.code-index in
    let new = c.retrace_code.new.frames.items in
    let rest = drop (i + 1) codes in
    sym (c.loop-code.invariant.same
    ∙ ap (λ (x : List PathValue). under c.loop-code.frames.items x ++ ahead s.direction s.goal.now s.nodes.now c.loop-code.frames.items)
    (ap (λ (k : List ℕ). part s.direction k (along s.direction s.goal.now s.nodes.now way)) (drop_more codes i 0 c.loop-code-test.true)
    ∙ ap (λ (t : Target). part s.direction (slice_index_or codes i 0 ∷ rest)
    (along s.direction s.goal.now s.nodes.now (record { target = t; is_met = way.is_met }))) c.in-At.is)
    ∙ c.retrace_code.ensures.walks rest
    ∙ ap (λ (o : Option Way). under new (part_along s.direction s.goal.now s.nodes.now rest o) ++ ahead s.direction s.goal.now s.nodes.now new)
    c.in_default-retrace_code.is
    ∙ ap (λ (x : List PathValue). x ++ ahead s.direction s.goal.now s.nodes.now new) (after_steps-nil (map step_in new)))

pub returns-clause-walks : goal.returns-clause-walks
returns-clause-walks c =
    let s = c.args.self.now in
    let way = c.loop-code.way in
    let frames = c.loop-code.frames.items in
    sym (c.loop-code.invariant.same
    ∙ ap (λ (x : List PathValue). under frames x ++ ahead s.direction s.goal.now s.nodes.now frames)
    (ap (λ (k : List ℕ). part s.direction k (along s.direction s.goal.now s.nodes.now way))
    (drop_all c.loop-code.code-index c.args.codes.now c.loop-code-test.false)
    ∙ past-key s.direction s.goal.now s.nodes.now way.is_met way.target _ c.requires.order c.loop-code.invariant.above)
    ∙ taken s.direction s.goal.now s.nodes.now frames way (is_past_end s.direction false way.target)
    ∙ ap (λ (p : Option Way). coming s.direction s.goal.now s.nodes.now p frames) (sym c.way_past-2.ensures))
