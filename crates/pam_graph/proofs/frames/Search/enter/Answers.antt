use Rattle.std.proofs.Common.{◌≡◌, ◌<◌, ◌++◌, ◌∙◌, [], List, ℕ, ap, drop, length, lit<, map, refl, slice_index_or, subst, sym}
use Rattle.std.proofs.lemmas.List.{length-append}
use Rattle.pam_graph.specs.declared.frames.Frame.{Frame}
use Rattle.pam_graph.specs.declared.node.Edge.{Edge}
use Rattle.pam_graph.specs.declared.node.Node.{Node}
use Rattle.pam_graph.specs.declared.node.Target.TheVariants.{At}
use Rattle.pam_graph.specs.Frames.{ahead, edges_in, known_in, step_in, under, wanted_by}
use Rattle.pam_graph.specs.inner.Frames.{AreFrames, IsFrame}
use Rattle.pam_graph.specs.Order.{AreAbove, IsAbove, numbers_of}
use Rattle.pam_graph.specs.Tallies.{wanted_of}
use Rattle.pam_graph.specs.Walks.{walks_to}
use Rattle.pam_graph.specs.inner.Within.{AreWithin}
use Rattle.pam_graph.proofs.FrameLists.{ahead-enter, edges-are, frame-above, frame-room, node-framed, node-inside, pushed}
use Rattle.pam_graph.proofs.Sides.{node-lower, node-within, tallies-in, walks-in}
use Rattle.pam_paths.specs.Computed.{after_step}
use Rattle.pam_graph.proofs.frames.Search.enter.Goals as goal
use Rattle.pam_graph.proofs.frames.Search.enter.Goals.{After-deref}

-- the node at the index
abbrev node : (c : After-deref) → Node
node c = slice_index_or c.args.self.now.nodes.now c.args.index c.index-self-index.result

at : (c : After-deref) → node c ≡ slice_index_or c.args.self.now.nodes.now c.args.index (node c)
at c = ap (slice_index_or c.args.self.now.nodes.now c.args.index) c.index-self-index.is

low : (c : After-deref) → c.args.index < length c.args.self.now.nodes.now
low c = node-inside c.args.self.now.nodes.now c.requires.search.order c.args.index (node c) (at c) _ c.requires.above

pub edge_from-requires : goal.edge_from-requires
edge_from-requires c =
    let s = c.args.self.now in
    subst (λ (es : List Edge). AreWithin (length s.tallies.now) es) (sym c.deref.ensures.value)
    (node-within s.nodes.now c.requires.search.order c.args.index (node c) (low c) (at c) s.tallies.now s.goal.now c.requires.search.tallies)

-- the wanted walks from the node on are those of its edges
onward : (c : After-deref) →
    wanted_of c.args.self.now.goal.now c.args.is_met (walks_to (known_in c.args.self.now.direction c.args.self.now.nodes.now) (At c.args.index))
    ≡ wanted_by c.args.self.now.goal.now c.args.is_met (known_in c.args.self.now.direction c.args.self.now.nodes.now) (node c).module_number
    (drop 0 (edges_in c.args.self.now.direction c.deref.result.now))
onward c =
    let s = c.args.self.now in
    let known = known_in s.direction s.nodes.now in
    ap (wanted_of s.goal.now c.args.is_met) (walks-in s.nodes.now c.requires.search.order c.args.index (node c) (low c) (at c) s.direction)
    ∙ ap (λ (es : List Edge). wanted_by s.goal.now c.args.is_met known (node c).module_number (edges_in s.direction es)) (sym c.deref.ensures.value)

pub unreachable-requires : goal.unreachable-requires
unreachable-requires c =
    let s = c.args.self.now in
    let k = (goal.at.unreachable-requires c).After-deref in
    c.requires.wanted (onward k ∙ c.in_default.ensures.none (known_in s.direction s.nodes.now)
    (tallies-in s.direction s.goal.now s.nodes.now s.tallies.now c.requires.search.tallies))

-- the frame of the node
framed : (c : After-deref) (f : Frame) → f.node ≡ c.args.index → f.module_number ≡ (node c).module_number →
    IsFrame c.args.self.now.nodes.now (length c.args.frames.now.items) f
framed c = node-framed c.args.self.now.nodes.now c.requires.search.order c.args.index (node c) (at c) _ c.requires.above

pub push-requires : goal.push-requires
push-requires c =
    let s = c.args.self.now in
    let k = (goal.at.push-requires c).After-deref in
    let f : Frame = record { node = c.args.index; module_number = (node k).module_number; next = 0; is_met = c.args.is_met; class = [] } in
    (lit< tt, frame-room s.direction s.goal.now s.nodes.now c.requires.search.order _ f (node k) (framed k f refl refl) (at k))

pub returns-clause-frames : goal.returns-clause-frames
returns-clause-frames c =
    let s = c.args.self.now in
    let k = (goal.at.returns-clause-frames c).After-deref in
    subst (AreFrames s.nodes.now 0) (sym c.push.ensures.items)
    (pushed s.nodes.now c.args.frames.now.items _ c.requires.frames (framed k _ refl refl))

pub returns-clause-walks : goal.returns-clause-walks
returns-clause-walks c =
    let s = c.args.self.now in
    let k = (goal.at.returns-clause-walks c).After-deref in
    let known = known_in s.direction s.nodes.now in
    let found = c.in-Some.found in
    let g : Frame = record { node = c.args.index; module_number = (node k).module_number; next = found.next; is_met = c.args.is_met; class = found.class } in
    let below = wanted_of s.goal.now found.is_met (walks_to known found.target) in
    ahead-enter s.direction s.goal.now s.nodes.now c.args.frames.now.items g below _
    (onward k
    ∙ c.in-Some.ensures.some known
    (tallies-in s.direction s.goal.now s.nodes.now s.tallies.now c.requires.search.tallies)
    ∙ ap (λ (es : List Edge). map (after_step (step_in g)) below
    ++ wanted_by s.goal.now c.args.is_met known (node k).module_number (drop found.next (edges_in s.direction es)))
    (c.deref.ensures.value ∙ sym (edges-are s.nodes.now c.args.index (node k) (low k) (at k))))
    ∙ ap (λ (x : List Frame). under x below ++ ahead s.direction s.goal.now s.nodes.now x) (sym c.push.ensures.items)

pub returns-clause-wanted : goal.returns-clause-wanted
returns-clause-wanted c none =
    let s = c.args.self.now in
    c.in-Some.ensures.wanted (known_in s.direction s.nodes.now) (tallies-in s.direction s.goal.now s.nodes.now s.tallies.now c.requires.search.tallies) none

pub returns-clause-above : goal.returns-clause-above
returns-clause-above c =
    let s = c.args.self.now in
    let k = (goal.at.returns-clause-above c).After-deref in
    let f : Frame = record { node = c.args.index; module_number = (node k).module_number; next = 0; is_met = c.args.is_met; class = [] } in
    let long = ap length c.push.ensures.items ∙ length-append c.args.frames.now.items _ in
    subst (λ (n : ℕ). IsAbove (numbers_of s.nodes.now) n c.in-Some.found.target) (sym long)
    (frame-above s.direction s.goal.now s.nodes.now c.requires.search.order _ f (node k) (framed k f refl refl) (at k) c.in-Some.found.target
    (λ numbers high h. c.in-Some.ensures.above numbers high (subst (AreAbove numbers high) (sym c.deref.ensures.value) h)))

pub returns-clause-lower : goal.returns-clause-lower
returns-clause-lower c =
    let s = c.args.self.now in
    let k = (goal.at.returns-clause-lower c).After-deref in
    node-lower s.nodes.now c.requires.search.order c.args.index (node k) (low k) (at k) c.in-Some.found.target
    (λ numbers high h. c.in-Some.ensures.above numbers high (subst (AreAbove numbers high) (sym c.deref.ensures.value) h))
