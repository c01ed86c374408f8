use Rattle.std.proofs.Common.{◌≡◌, ◌<◌, ◌++◌, ◌∷◌, ◌∙◌, [], List, ℕ, ap, drop, length, lit<, map, rules, slice_index_or, subst, sym}
use Rattle.std.proofs.lemmas.List.{length-append}
use Rattle.pam_graph.specs.declared.frames.Frame.{Frame}
use Rattle.pam_graph.specs.declared.node.Edge.{Edge}
use Rattle.pam_graph.specs.Frames.{ahead, edges_in, edges_of, known_in, left_at, step_in, under, wanted_by}
use Rattle.pam_graph.specs.inner.Frames.{AreFrames}
use Rattle.pam_graph.specs.Order.{AreAbove, IsAbove, numbers_of}
use Rattle.pam_graph.specs.Tallies.{wanted_of}
use Rattle.pam_graph.specs.Walks.{walks_to}
use Rattle.pam_graph.specs.inner.Within.{AreWithin}
use Rattle.pam_graph.proofs.FrameLists.{ahead-next, ahead-none, frame-above, frame-follows, frame-left, frame-room, popped, pushed}
use Rattle.pam_graph.proofs.Sides.{node-within, tallies-in}
use Rattle.pam_graph.proofs.frames.Search.advance.Goals as goal
use Rattle.pam_paths.specs.Computed.{after_step}
use Rattle.pam_paths.specs.Paths.{PathValue}
use Rattle.pam_paths.proofs.Fronts.{front_changed, front_popped}

pub bounds-self-frame : goal.bounds-self-frame
bounds-self-frame c = (popped c.args.self.now.nodes.now _ _ c.in-Some.frame c.in-Some.ensures.items c.loop-frame.invariant.frames).1.node

pub offset_bounds-self-frame : goal.offset_bounds-self-frame
offset_bounds-self-frame c =
    let l : c.in-Some.frame.node < length c.args.self.now.nodes.now =
    (popped c.args.self.now.nodes.now _ _ c.in-Some.frame c.in-Some.ensures.items c.loop-frame.invariant.frames).1.node in
    search rules

pub edge_from-requires : goal.edge_from-requires
edge_from-requires c =
    let s = c.args.self.now in
    let is = (popped s.nodes.now _ _ c.in-Some.frame c.in-Some.ensures.items c.loop-frame.invariant.frames).1 in
    subst (λ (es : List Edge). AreWithin (length s.tallies.now) es) (sym (c.deref.ensures.value ∙ ap edges_of (sym c.index-self-frame.is)))
    (node-within s.nodes.now c.requires.search.order c.in-Some.frame.node c.index-self-frame.result is.node c.index-self-frame.is s.tallies.now s.goal.now
    c.requires.search.tallies)

pub push-requires : goal.push-requires
push-requires c =
    let s = c.args.self.now in
    let is = (popped s.nodes.now _ _ c.in-Some.frame c.in-Some.ensures.items c.loop-frame.invariant.frames).1 in
    (lit< tt, frame-room s.direction s.goal.now s.nodes.now c.requires.search.order _ c.in-Some.frame c.index-self-frame.result is c.index-self-frame.is)

pub returns-in-Some-edge_from-clause-frames : goal.returns-in-Some-edge_from-clause-frames
returns-in-Some-edge_from-clause-frames c =
    let s = c.args.self.now in
    let k = popped s.nodes.now _ _ c.in-Some.frame c.in-Some.ensures.items c.loop-frame.invariant.frames in
    subst (AreFrames s.nodes.now 0) (sym c.push.ensures.items)
    (pushed s.nodes.now c.pop.new.self.items c.following.result k.0
    (frame-follows s.direction s.goal.now s.nodes.now c.requires.search.order _ c.in-Some.frame c.index-self-frame.result k.1 c.index-self-frame.is
    c.following.result (ap (λ (f : Frame). f.node) c.following.ensures) (ap (λ (f : Frame). f.module_number) c.following.ensures)))

pub returns-in-Some-edge_from-clause-wanted : goal.returns-in-Some-edge_from-clause-wanted
returns-in-Some-edge_from-clause-wanted c none =
    let s = c.args.self.now in
    c.in-Some-edge_from.ensures.wanted (known_in s.direction s.nodes.now)
    (tallies-in s.direction s.goal.now s.nodes.now s.tallies.now c.requires.search.tallies) none

pub returns-in-Some-edge_from-clause-above : goal.returns-in-Some-edge_from-clause-above
returns-in-Some-edge_from-clause-above c =
    let s = c.args.self.now in
    let k = popped s.nodes.now _ _ c.in-Some.frame c.in-Some.ensures.items c.loop-frame.invariant.frames in
    let node = c.index-self-frame.result in
    let long = ap length c.push.ensures.items ∙ length-append c.pop.new.self.items (c.following.result ∷ []) in
    subst (λ (n : ℕ). IsAbove (numbers_of s.nodes.now) n c.in-Some-edge_from.found.target) (sym long)
    (frame-above s.direction s.goal.now s.nodes.now c.requires.search.order _ c.in-Some.frame node k.1 c.index-self-frame.is
    c.in-Some-edge_from.found.target
    (λ numbers high h. c.in-Some-edge_from.ensures.above numbers high (subst (AreAbove numbers high) (sym (c.deref.ensures.value ∙ ap edges_of
    (sym c.index-self-frame.is))) h)))

pub returns-in-Some-edge_from-clause-walks : goal.returns-in-Some-edge_from-clause-walks
returns-in-Some-edge_from-clause-walks c =
    let s = c.args.self.now in
    let known = known_in s.direction s.nodes.now in
    let k = popped s.nodes.now _ _ c.in-Some.frame c.in-Some.ensures.items c.loop-frame.invariant.frames in
    let f = c.in-Some.frame in
    let g = c.following.result in
    let found = c.in-Some-edge_from.found in
    let node = c.index-self-frame.result in
    let order = c.requires.search.order in
    let follows = c.following.ensures in
    let below = wanted_of s.goal.now found.is_met (walks_to known found.target) in
    let own = frame-follows s.direction s.goal.now s.nodes.now order _ f node k.1 c.index-self-frame.is g (ap (λ (x : Frame). x.node) follows)
    (ap (λ (x : Frame). x.module_number) follows) in
    let same : wanted_by s.goal.now f.is_met known f.module_number (drop f.next (edges_in s.direction node.edges.items))
    ≡ map (after_step (step_in g)) below ++ left_at s.direction s.goal.now s.nodes.now g =
    ap (λ (es : List Edge). wanted_by s.goal.now f.is_met known f.module_number (drop f.next (edges_in s.direction es))) (sym
    (c.deref.ensures.value ∙ ap edges_of (sym c.index-self-frame.is)))
    ∙ c.in-Some-edge_from.ensures.some known
    (tallies-in s.direction s.goal.now s.nodes.now s.tallies.now c.requires.search.tallies)
    ∙ ap (λ (es : List Edge). map (after_step (record { module_number = f.module_number; class = found.class })) below
    ++ wanted_by s.goal.now f.is_met known f.module_number (drop found.next (edges_in s.direction es))) (c.deref.ensures.value ∙ ap edges_of
    (sym c.index-self-frame.is))
    ∙ ap (λ (x : Frame). map (after_step (step_in x)) below
    ++ wanted_by s.goal.now x.is_met known x.module_number (drop x.next (edges_in s.direction node.edges.items))) (sym follows)
    ∙ ap (λ (x : List PathValue). map (after_step (step_in g)) below ++ x)
    (sym (frame-left s.direction s.goal.now s.nodes.now order _ g node own
    (c.index-self-frame.is ∙ ap (λ (x : Frame). slice_index_or s.nodes.now x.node node) (sym follows)))) in
    c.loop-frame.invariant.same
    ∙ ahead-next s.direction s.goal.now s.nodes.now _ c.pop.new.self.items f g below c.in-Some.ensures.items
    (frame-left s.direction s.goal.now s.nodes.now order _ f node k.1 c.index-self-frame.is ∙ same)
    ∙ ap (λ (x : List Frame). under x below ++ ahead s.direction s.goal.now s.nodes.now x) (sym c.push.ensures.items)

pub returns-in-Some-edge_from-clause-earlier : goal.returns-in-Some-edge_from-clause-earlier
returns-in-Some-edge_from-clause-earlier c =
    front_changed c.args.frames.now.items c.pop.new.self.items _ c.following.result
    (front_popped c.args.frames.now.items c.loop-frame.frames.items c.pop.new.self.items c.loop-frame.invariant.earlier c.in-Some.ensures.rest)
    c.push.ensures.items

pub loop-frame-preserved : goal.loop-frame-preserved
loop-frame-preserved c =
    let s = c.args.self.now in
    let known = known_in s.direction s.nodes.now in
    let k = popped s.nodes.now _ _ c.in-Some.frame c.in-Some.ensures.items c.loop-frame.invariant.frames in
    let f = c.in-Some.frame in
    let node = c.index-self-frame.result in
    let none : left_at s.direction s.goal.now s.nodes.now f ≡ [] =
    frame-left s.direction s.goal.now s.nodes.now c.requires.search.order _ f node k.1 c.index-self-frame.is
    ∙ ap (λ (es : List Edge). wanted_by s.goal.now f.is_met known f.module_number (drop f.next (edges_in s.direction es))) (sym
    (c.deref.ensures.value ∙ ap edges_of (sym c.index-self-frame.is)))
    ∙ c.in_default-edge_from.ensures.none known
    (tallies-in s.direction s.goal.now s.nodes.now s.tallies.now c.requires.search.tallies) in
    record {
      frames = k.0;
      earlier = front_popped c.args.frames.now.items c.loop-frame.frames.items c.pop.new.self.items c.loop-frame.invariant.earlier c.in-Some.ensures.rest;
      same = c.loop-frame.invariant.same ∙ ahead-none s.direction s.goal.now s.nodes.now _ c.pop.new.self.items f c.in-Some.ensures.items none;
    }

pub returns-clause-none : goal.returns-clause-none
unfolding ahead
returns-clause-none c =
    let s = c.args.self.now in
    let empty : c.loop-frame.frames.items ≡ [] = search rules in
    c.loop-frame.invariant.same ∙ ap (ahead s.direction s.goal.now s.nodes.now) empty
