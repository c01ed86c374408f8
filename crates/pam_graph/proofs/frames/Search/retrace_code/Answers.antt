use Rattle.std.proofs.Common.{◌≡◌, ◌<◌, ◌∙◌, ◌++◌, [], Bool, IfSome, List, Option, ℕ, ap, length, lit<, map, refl, slice_index_or, subst, sym}
use Rattle.std.proofs.lemmas.List.{length-append}
use Rattle.pam_graph.specs.declared.frames.Frame.{Frame}
use Rattle.pam_graph.specs.declared.node.Edge.{Edge}
use Rattle.pam_graph.specs.declared.node.Node.{Node}
use Rattle.pam_graph.specs.Frames.{ahead, known_in, under}
use Rattle.pam_graph.specs.inner.Frames.{AreFrames, IsFrame}
use Rattle.pam_graph.specs.Order.{AreAbove, IsAbove, LeastRise, numbers_of}
use Rattle.pam_graph.specs.inner.Parts.{IsTurn, part, part_by}
use Rattle.pam_graph.specs.Tallies.{wanted_of}
use Rattle.pam_graph.specs.Walks.{walks_to}
use Rattle.pam_graph.proofs.FrameLists.{frame-above, frame-room, node-framed, node-inside, pushed}
use Rattle.pam_graph.proofs.Sides.{node-valid}
use Rattle.pam_graph.proofs.Turning.{turned}
use Rattle.pam_graph.proofs.frames.Search.retrace_code.Goals as goal
use Rattle.pam_graph.proofs.frames.Search.retrace_code.Goals.{After-deref}
use Rattle.pam_paths.specs.Computed.{after_step}
use Rattle.pam_paths.specs.Paths.{PathValue}

-- the node at the index
abbrev node : (c : After-deref) → Node
node c = slice_index_or c.args.self.now.nodes.now c.args.index c.index-self-index.result

at : (c : After-deref) → node c ≡ slice_index_or c.args.self.now.nodes.now c.args.index (node c)
at c = ap (slice_index_or c.args.self.now.nodes.now c.args.index) c.index-self-index.is

low : (c : After-deref) → c.args.index < length c.args.self.now.nodes.now
low c = node-inside c.args.self.now.nodes.now c.requires.order c.args.index (node c) (at c) _ c.requires.above

framed : (c : After-deref) (f : Frame) → f.node ≡ c.args.index → f.module_number ≡ (node c).module_number →
    IsFrame c.args.self.now.nodes.now (length c.args.frames.now.items) f
framed c = node-framed c.args.self.now.nodes.now c.requires.order c.args.index (node c) (at c) _ c.requires.above

pub turn-turn-requires : goal.turn-turn-requires
turn-turn-requires c =
    subst (LeastRise 0 31) (sym c.deref.ensures.value) (node-valid c.args.self.now.nodes.now c.requires.order c.args.index (node c) (low c) (at c)).rise

pub returns-in-None-clause-frames : goal.returns-in-None-clause-frames
returns-in-None-clause-frames c =
    let k = (goal.at.returns-in-None-clause-frames c).After-deref in
    subst (AreFrames c.args.self.now.nodes.now 0) (sym c.push.ensures.items)
    (pushed c.args.self.now.nodes.now c.args.frames.now.items _ c.requires.frames (framed k _ refl refl))

pub returns-in-Some-clause-frames : goal.returns-in-Some-clause-frames
returns-in-Some-clause-frames c =
    let k = (goal.at.returns-in-Some-clause-frames c).After-deref in
    subst (AreFrames c.args.self.now.nodes.now 0) (sym c.push-in-Some.ensures.items)
    (pushed c.args.self.now.nodes.now c.args.frames.now.items _ c.requires.frames (framed k _ refl refl))

pub returns-in-None-clause-walks : goal.returns-in-None-clause-walks
returns-in-None-clause-walks c codes =
    let s = c.args.self.now in
    let k = (goal.at.returns-in-None-clause-walks c).After-deref in
    turned s.direction s.goal.now s.nodes.now c.requires.order c.args.index (node k) (low k) (at k) c.args.frames.now.items c.args.is_met c.args.code codes
    c.turn-turn.result c.empty.result []
    (subst (λ (es : List Edge). IsTurn s.direction es c.args.code c.turn-turn.result) c.deref.ensures.value c.turn-turn.ensures.turn)
    (ap (part_by s.direction s.goal.now c.args.is_met (known_in s.direction s.nodes.now) (node k).module_number codes) c.in-None.is)
    ∙ ap (λ (x : List Frame). under x [] ++ ahead s.direction s.goal.now s.nodes.now x) (sym c.push.ensures.items)

pub returns-in-Some-clause-walks : goal.returns-in-Some-clause-walks
returns-in-Some-clause-walks c codes =
    let s = c.args.self.now in
    let k = (goal.at.returns-in-Some-clause-walks c).After-deref in
    let known = known_in s.direction s.nodes.now in
    let e = c.in-Some.edge in
    let below : Bool → List PathValue = λ t. part s.direction codes (wanted_of s.goal.now t (walks_to known e.target)) in
    turned s.direction s.goal.now s.nodes.now c.requires.order c.args.index (node k) (low k) (at k) c.args.frames.now.items c.args.is_met c.args.code codes
    c.turn-turn.result e.class (below c.met_after.result)
    (subst (λ (es : List Edge). IsTurn s.direction es c.args.code c.turn-turn.result) c.deref.ensures.value c.turn-turn.ensures.turn)
    (ap (part_by s.direction s.goal.now c.args.is_met known (node k).module_number codes) c.in-Some.is
    ∙ ap (λ (t : Bool). map (after_step (record { module_number = (node k).module_number; class = e.class })) (below t)) (sym c.met_after.ensures))
    ∙ ap (λ (x : List Frame). under x (below c.met_after.result) ++ ahead s.direction s.goal.now s.nodes.now x) (sym c.push-in-Some.ensures.items)

pub push-requires : goal.push-requires
push-requires c =
    let s = c.args.self.now in
    let k = (goal.at.push-requires c).After-deref in
    let f : Frame = record { node = c.args.index; module_number = (node k).module_number; next = 0; is_met = c.args.is_met; class = [] } in
    (lit< tt, frame-room s.direction s.goal.now s.nodes.now c.requires.order _ f (node k) (framed k f refl refl) (at k))

pub push-requires-in-Some : goal.push-requires-in-Some
push-requires-in-Some c =
    let s = c.args.self.now in
    let k = (goal.at.push-requires-in-Some c).After-deref in
    let f : Frame = record { node = c.args.index; module_number = (node k).module_number; next = 0; is_met = c.args.is_met; class = [] } in
    (lit< tt, frame-room s.direction s.goal.now s.nodes.now c.requires.order _ f (node k) (framed k f refl refl) (at k))

pub returns-in-Some-clause-above : goal.returns-in-Some-clause-above
returns-in-Some-clause-above c =
    let s = c.args.self.now in
    let k = (goal.at.returns-in-Some-clause-above c).After-deref in
    let f : Frame = record { node = c.args.index; module_number = (node k).module_number; next = 0; is_met = c.args.is_met; class = [] } in
    let long = ap length c.push-in-Some.ensures.items ∙ length-append c.args.frames.now.items _ in
    subst (λ (n : ℕ). IsAbove (numbers_of s.nodes.now) n c.in-Some.edge.target) (sym long)
    (frame-above s.direction s.goal.now s.nodes.now c.requires.order _ f (node k) (framed k f refl refl) (at k) c.in-Some.edge.target
    (λ numbers high h. subst (λ (o : Option Edge). IfSome o (λ e. IsAbove numbers high e.target)) c.in-Some.is
    (c.turn-turn.ensures.above numbers high (subst (AreAbove numbers high) (sym c.deref.ensures.value) h))))
