-- Frames, and the walks that are ahead of them.
use Rattle.std.proofs.Common.{◌≡◌, ℕ, ◌+◌, ◌<◌, ◌≤◌, Bool, true, false, List, [], ◌∷◌, ◌++◌}
use Rattle.std.proofs.Common.{map, cond, refl, sym, ◌∙◌, ap, subst, arith, append_assoc, append-nil, drop, length, slice_index_or}
use Rattle.std.proofs.lemmas.List.{length-map, map-append, get_or-map}
use Rattle.pam_conf.specs.declared.stack.TheConstants.{MAX_MODULES}
use Rattle.pam_graph.specs.declared.direction.Direction.{Direction}
use Rattle.pam_graph.specs.declared.frames.Frame.{Frame}
use Rattle.pam_graph.specs.declared.frames.Way.{Way}
use Rattle.pam_graph.specs.declared.goal.Goal.{Goal}
use Rattle.pam_graph.specs.declared.node.Edge.{Edge}
use Rattle.pam_graph.specs.declared.node.Node.{Node}
use Rattle.pam_graph.specs.declared.node.Target.{Target}
use Rattle.pam_graph.specs.declared.node.Target.TheVariants.{At, End}
use Rattle.pam_graph.specs.Frames.{ahead, along, edges_at, edges_in, edges_of, known_in, left_at, step_in, under, wanted_by}
use Rattle.pam_graph.specs.inner.Frames.{AreFrames, IsFrame, walk_to}
use Rattle.pam_graph.specs.Order.{AreAbove, AreNodes, IsAbove, number_of, numbers_of}
use Rattle.pam_graph.specs.Tallies.{wanted, wanted_of}
use Rattle.pam_graph.specs.Walks.{walks_to}
use Rattle.pam_graph.proofs.Counting.{ended}
use Rattle.pam_graph.proofs.Sides.{node-valid, number-at}
use Rattle.pam_paths.specs.Computed.{after_step, after_steps}
use Rattle.pam_paths.specs.Paths.{PathValue}
use Rattle.pam_paths.proofs.FrameLists.{after_steps-append, after_steps-nil, after_steps-push}

-- a walk that ends
under-end : (fs : List Frame) (decision : ℕ) → under fs (ended decision ∷ []) ≡ walk_to fs decision ∷ []
unfolding after_steps
under-end [] decision = refl
under-end (f ∷ fs) decision = ap (map (after_step (step_in f))) (under-end fs decision)

-- THE FRAMES OF A GRAPH

AreFrames-push : (nodes : List Node) (low : ℕ) (fs : List Frame) (f : Frame) → AreFrames nodes low fs → IsFrame nodes (low + length fs) f →
    AreFrames nodes low (fs ++ f ∷ [])
unfolding AreFrames
AreFrames-push nodes low [] f h k = (subst (λ (x : ℕ). IsFrame nodes x f) (omega arith) k, tt)
AreFrames-push nodes low (g ∷ fs) f h k =
    (h.0, AreFrames-push nodes (low + 1) fs f h.1 (subst (λ (x : ℕ). IsFrame nodes x f) (omega arith) k))

AreFrames-pop : (nodes : List Node) (low : ℕ) (fs : List Frame) (f : Frame) → AreFrames nodes low (fs ++ f ∷ []) →
    AreFrames nodes low fs × IsFrame nodes (low + length fs) f
unfolding AreFrames
AreFrames-pop nodes low [] f h = (tt, subst (λ (x : ℕ). IsFrame nodes x f) (omega arith) h.0)
AreFrames-pop nodes low (g ∷ fs) f h =
    let k = AreFrames-pop nodes (low + 1) fs f h.1 in
    ((h.0, k.0), subst (λ (x : ℕ). IsFrame nodes x f) (omega arith) k.1)

pub pushed : (nodes : List Node) (fs : List Frame) (f : Frame) → AreFrames nodes 0 fs → IsFrame nodes (length fs) f → AreFrames nodes 0 (fs ++ f ∷ [])
pushed nodes fs f h k = AreFrames-push nodes 0 fs f h (subst (λ (x : ℕ). IsFrame nodes x f) (omega arith) k)

pub popped : (nodes : List Node) (all fs : List Frame) (f : Frame) → all ≡ fs ++ f ∷ [] → AreFrames nodes 0 all →
    AreFrames nodes 0 fs × IsFrame nodes (length fs) f
popped nodes all fs f e h =
    let k = AreFrames-pop nodes 0 fs f (subst (AreFrames nodes 0) e h) in
    (k.0, subst (λ (x : ℕ). IsFrame nodes x f) (omega arith) k.1)

-- the edges of the node of a frame
pub edges-are : (nodes : List Node) (i : ℕ) (node : Node) → i < length nodes → node ≡ slice_index_or nodes i node → edges_at nodes i ≡ node.edges.items
edges-are nodes i node l is = get_or-map edges_of nodes i node [] l ∙ ap edges_of (sym is)

-- THE WALKS AHEAD OF FRAMES

module _ (d : Direction) (goal : Goal) (nodes : List Node) where
  ahead-push : (fs : List Frame) (f : Frame) → ahead d goal nodes (fs ++ f ∷ []) ≡ under fs (left_at d goal nodes f) ++ ahead d goal nodes fs
  unfolding ahead after_steps
  ahead-push [] f = sym (append-nil _)
  ahead-push (g ∷ fs) f =
      ap (λ (x : List PathValue). map (after_step (step_in g)) x ++ left_at d goal nodes g) (ahead-push fs f)
      ∙ ap (λ (x : List PathValue). x ++ left_at d goal nodes g)
      (map-append (after_step (step_in g)) (under fs (left_at d goal nodes f)) (ahead d goal nodes fs))
      ∙ append_assoc (map (after_step (step_in g)) (under fs (left_at d goal nodes f))) (map (after_step (step_in g)) (ahead d goal nodes fs))
      (left_at d goal nodes g)

  -- a frame at which no edge is left
  pub ahead-none : (all fs : List Frame) (f : Frame) → all ≡ fs ++ f ∷ [] → left_at d goal nodes f ≡ [] → ahead d goal nodes all ≡ ahead d goal nodes fs
  ahead-none all fs f is e =
      ap (ahead d goal nodes) is ∙ ahead-push fs f
      ∙ ap (λ (x : List PathValue). under fs x ++ ahead d goal nodes fs) e
      ∙ ap (λ (x : List PathValue). x ++ ahead d goal nodes fs) (after_steps-nil (map step_in fs))

  -- the walks below an edge of a frame, and those ahead of it
  pub ahead-enter : (fs : List Frame) (g : Frame) (below walks : List PathValue) → walks ≡ map (after_step (step_in g)) below ++ left_at d goal nodes g →
      under fs walks ++ ahead d goal nodes fs ≡ under (fs ++ g ∷ []) below ++ ahead d goal nodes (fs ++ g ∷ [])
  ahead-enter fs g below walks is =
      let here = map (after_step (step_in g)) below in
      ap (λ (x : List PathValue). under fs x ++ ahead d goal nodes fs) is
      ∙ ap (λ (x : List PathValue). x ++ ahead d goal nodes fs) (after_steps-append (map step_in fs) here (left_at d goal nodes g))
      ∙ append_assoc (under fs here) (under fs (left_at d goal nodes g)) (ahead d goal nodes fs)
      ∙ ap (λ (x : List PathValue). x ++ (under fs (left_at d goal nodes g) ++ ahead d goal nodes fs)) (sym (after_steps-push step_in fs g below))
      ∙ ap (λ (x : List PathValue). under (fs ++ g ∷ []) below ++ x) (sym (ahead-push fs g))

  pub ahead-next : (all fs : List Frame) (f g : Frame) (below : List PathValue) → all ≡ fs ++ f ∷ [] →
      left_at d goal nodes f ≡ map (after_step (step_in g)) below ++ left_at d goal nodes g →
      ahead d goal nodes all ≡ under (fs ++ g ∷ []) below ++ ahead d goal nodes (fs ++ g ∷ [])
  ahead-next all fs f g below is branch = ap (ahead d goal nodes) is ∙ ahead-push fs f ∙ ahead-enter fs g below (left_at d goal nodes f) branch

  -- the end of a walk that is wanted
  pub ahead-end : (fs : List Frame) (way : Way) (decision : ℕ) → way.target ≡ End decision → (along d goal nodes way ≡ [] → ⊥) →
      under fs (along d goal nodes way) ++ ahead d goal nodes fs ≡ walk_to fs decision ∷ ahead d goal nodes fs
  ahead-end fs way decision is some =
      ap (λ (x : List PathValue). under fs x ++ ahead d goal nodes fs) only
      ∙ ap (λ (x : List PathValue). x ++ ahead d goal nodes fs) (under-end fs decision)
    where
      one : (t : Bool) → (cond t (ended decision ∷ []) [] ≡ [] → ⊥) → cond t (ended decision ∷ []) [] ≡ ended decision ∷ []
      one true k = refl
      one false k = absurd (k refl)

      there : along d goal nodes way ≡ cond (wanted goal way.is_met (ended decision)) (ended decision ∷ []) []
      there = ap (λ (t : Target). wanted_of goal way.is_met (walks_to (known_in d nodes) t)) is

      only : along d goal nodes way ≡ ended decision ∷ []
      only = there ∙ one (wanted goal way.is_met (ended decision)) (λ e. some (there ∙ e))

-- THE NODE OF A FRAME

-- a node that is entered after `low` frames
module _ (nodes : List Node) (order : AreNodes [] nodes) (index : ℕ) (node : Node) (at : node ≡ slice_index_or nodes index node) (low : ℕ)
    (above : IsAbove (numbers_of nodes) low (At index)) where
  pub node-inside : index < length nodes
  node-inside = omega (arith, above.0, length-map nodes number_of)

  -- its frame
  pub node-framed : (f : Frame) → f.node ≡ index → f.module_number ≡ node.module_number → IsFrame nodes low f
  node-framed f there numbered =
      let number = number-at nodes order index node node-inside at in
      record {
        node = subst (λ (n : ℕ). n < length nodes) (sym there) node-inside;
        number = numbered ∙ sym number ∙ ap (λ (n : ℕ). slice_index_or (numbers_of nodes) n 0) (sym there);
        above = omega (arith, above.1, number, numbered);
      }

module _ (d : Direction) (goal : Goal) (nodes : List Node) (order : AreNodes [] nodes) (low : ℕ) (f : Frame) (node : Node) (is : IsFrame nodes low f)
    (at : node ≡ slice_index_or nodes f.node node) where
  -- the module of a frame has the number of its node
  pub frame-number : f.module_number ≡ node.module_number
  frame-number = is.number ∙ number-at nodes order f.node node is.node at

  -- the edges that are left at a frame are those of its node
  pub frame-left : left_at d goal nodes f
      ≡ wanted_by goal f.is_met (known_in d nodes) f.module_number (drop f.next (edges_in d node.edges.items))
  frame-left =
      ap (λ (es : List Edge). wanted_by goal f.is_met (known_in d nodes) f.module_number (drop f.next (edges_in d es)))
      (edges-are nodes f.node node is.node at)

  -- the frame may follow another edge
  pub frame-follows : (g : Frame) → g.node ≡ f.node → g.module_number ≡ f.module_number → IsFrame nodes low g
  frame-follows g one other = record {
    node = subst (λ (n : ℕ). n < length nodes) (sym one) is.node;
    number = other ∙ is.number ∙ ap (λ (n : ℕ). slice_index_or (numbers_of nodes) n 0) (sym one);
    above = subst (λ (n : ℕ). low < n) (sym other) is.above;
  }

  pub frame-room : low < MAX_MODULES
  frame-room = let valid = node-valid nodes order f.node node is.node at in omega (arith, is.above, frame-number, valid.last)

  -- where an edge of the node leads
  pub frame-above : (t : Target) → ((numbers : List ℕ) (high : ℕ) → AreAbove numbers high node.edges.items → IsAbove numbers high t) →
      IsAbove (numbers_of nodes) (low + 1) t
  frame-above t h =
      let valid = node-valid nodes order f.node node is.node at in
      above-lower (low + 1) node.module_number t (omega (arith, is.above, frame-number)) (h (numbers_of nodes) node.module_number valid.later)
    where
      above-lower : (few many : ℕ) (t : Target) → few ≤ many → IsAbove (numbers_of nodes) many t → IsAbove (numbers_of nodes) few t
      above-lower few many (At index) l k = (k.0, omega (arith, l, k.1))
      above-lower few many (End decision) l k = tt
