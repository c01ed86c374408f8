use Rattle.std.proofs.Common.{rules, None, ◌≡◌, ◌<◌, ◌∙◌, ◌∷◌, [], List, Option, ℕ, ap, arith, length, slice_index_or, subst, sym}
use Rattle.std.proofs.lemmas.List.{length-append, length-map}
use Rattle.std.specs.List.{flat_map}
use Rattle.std.specs.Option.{option_map}
use Rattle.pam_graph.specs.declared.node.Edge.{Edge}
use Rattle.pam_graph.specs.declared.node.Node.{Node}
use Rattle.pam_graph.specs.declared.node.Target.{Target}
use Rattle.pam_graph.specs.declared.node.Target.TheVariants.{At}
use Rattle.pam_graph.specs.inner.Deciding.{after_steps, first_deciding}
use Rattle.pam_graph.specs.Order.{AreAbove, IsAbove, number_of, numbers_of}
use Rattle.pam_graph.specs.Walks.{walks_by, walks_of, walks_to}
use Rattle.pam_graph.specs.inner.Within.{AreWithin, height}
use Rattle.pam_graph.proofs.Deciding.{edges-within, next-above, next-lower, number-last, onward, room, steps-end, steps-none, steps-then}
use Rattle.pam_paths.specs.Paths.{PathValue, StepValue}
use Rattle.pam_graph.proofs.decisions.first_from.Goals as goal
use Rattle.pam_graph.proofs.decisions.first_from.Goals.{After-deref}

-- the node at the index
abbrev node : (c : After-deref) → Node
node c = c.index-nodes-index.result

at : (c : After-deref) → node c ≡ slice_index_or c.args.nodes.now c.in-At.index (node c)
at c = c.index-nodes-index.is

above : (c : After-deref) → IsAbove (numbers_of c.args.nodes.now) (length c.loop-target.path.steps) (At c.in-At.index)
above c = subst (IsAbove (numbers_of c.args.nodes.now) (length c.loop-target.path.steps)) c.in-At.is c.loop-target.invariant.above

-- the first walk from the node on is the first by its edges
onto : (c : After-deref) →
    first_deciding c.args.code (walks_to (walks_of c.args.nodes.now) (At c.in-At.index))
    ≡ first_deciding c.args.code (flat_map (walks_by (walks_of c.args.nodes.now) (node c).module_number) c.deref.result.now)
onto c =
    let known = walks_of c.args.nodes.now in
    ap (first_deciding c.args.code) (onward c.args.nodes.now c.requires.order c.in-At.index (node c) (at c) _ (above c))
    ∙ ap (λ (es : List Edge). first_deciding c.args.code (flat_map (walks_by known (node c).module_number) es)) (sym c.deref.ensures.value)

pub loop-target-init : goal.loop-target-init
loop-target-init c = record {
  above = subst (λ (x : List StepValue). IsAbove (numbers_of c.args.nodes.now) (length x) c.args.start) (sym c.new-path.ensures) c.requires.start;
  leads = c.requires.leads;
  same = sym (ap (λ (x : List StepValue). option_map (after_steps x) (first_deciding c.args.code (walks_to (walks_of c.args.nodes.now) c.args.start)))
      c.new-path.ensures ∙ steps-none _);
}

pub returns-in-End : goal.returns-in-End
returns-in-End c =
    let code = c.args.code in
    let known = walks_of c.args.nodes.now in
    let steps = c.loop-target.path.steps in
    c.loop-target.invariant.same
    ∙ ap (λ (t : Target). option_map (after_steps steps) (first_deciding code (walks_to known t))) c.in-End.is
    ∙ steps-end steps code c.in-End.decision c.decide.new.self
    (subst (λ (t : Target). first_deciding code (walks_to known t) ≡ None → ⊥) c.in-End.is c.loop-target.invariant.leads)
    c.decide.ensures.steps c.decide.ensures.decision

pub bounds-nodes-index : goal.bounds-nodes-index
bounds-nodes-index c =
    let up = subst (IsAbove (numbers_of c.args.nodes.now) (length c.loop-target.path.steps)) c.in-At.is c.loop-target.invariant.above in
    omega (arith, up.0, length-map c.args.nodes.now number_of)

pub offset_bounds-nodes-index : goal.offset_bounds-nodes-index
offset_bounds-nodes-index c =
    let up = subst (IsAbove (numbers_of c.args.nodes.now) (length c.loop-target.path.steps)) c.in-At.is c.loop-target.invariant.above in
    let l : c.in-At.index < length c.args.nodes.now = omega (arith, up.0, length-map c.args.nodes.now number_of) in
    search rules

pub edge_to-requires : goal.edge_to-requires
edge_to-requires c =
    subst (λ (es : List Edge). AreWithin (length c.args.known.now) es) (sym c.deref.ensures.value)
    (edges-within c.args.nodes.now c.requires.order c.in-At.index (node c) (at c) _ (above c) c.args.known.now c.requires.known)

pub unreachable-requires : goal.unreachable-requires
unreachable-requires c =
    let code = c.args.code in
    let known = walks_of c.args.nodes.now in
    let k = (goal.at.unreachable-requires c).After-deref in
    subst (λ (t : Target). first_deciding code (walks_to known t) ≡ None → ⊥) c.in-At.is c.loop-target.invariant.leads
    (onto k ∙ c.in_default.ensures.none known (node k).module_number c.requires.known)

pub push-requires-clause-room : goal.push-requires-clause-room
push-requires-clause-room c =
    let k = (goal.at.push-requires-clause-room c).After-deref in
    room c.args.nodes.now c.requires.order c.in-At.index (node k) (at k) _ (above k)

pub push-requires-clause-last : goal.push-requires-clause-last
push-requires-clause-last c =
    let k = (goal.at.push-requires-clause-last c).After-deref in
    number-last c.args.nodes.now c.requires.order c.in-At.index (node k) (at k) _ (above k)

pub loop-target-smaller : goal.loop-target-smaller
loop-target-smaller c =
    let k = (goal.at.loop-target-smaller c).After-deref in
    subst (λ (t : Target). height c.in-Some.edge.target < height t) (sym c.in-At.is)
    (next-lower c.args.nodes.now c.requires.order c.in-At.index (node k) (at k) _ (above k) c.in-Some.edge.target
    (λ numbers high h. c.in-Some.ensures.above numbers high (subst (AreAbove numbers high) (sym c.deref.ensures.value) h)))

pub loop-target-preserved : goal.loop-target-preserved
loop-target-preserved c =
    let nodes = c.args.nodes.now in
    let code = c.args.code in
    let known = walks_of nodes in
    let edge = c.in-Some.edge in
    let k = (goal.at.loop-target-preserved c).After-deref in
    let steps = c.loop-target.path.steps in
    let step : StepValue = record { module_number = (node k).module_number; class = edge.class } in
    let long = ap length c.push.ensures.steps ∙ length-append steps (step ∷ []) in
    let through : Option PathValue → Option PathValue = option_map (after_steps steps) in
    record {
      above = subst (λ (n : ℕ). IsAbove (numbers_of nodes) n edge.target) (sym long)
          (next-above nodes c.requires.order c.in-At.index (node k) (at k) _ (above k) edge.target
          (λ numbers high h. c.in-Some.ensures.above numbers high (subst (AreAbove numbers high) (sym c.deref.ensures.value) h)));
      leads = c.in-Some.ensures.leads known c.requires.known;
      same = c.loop-target.invariant.same
          ∙ ap (λ (t : Target). through (first_deciding code (walks_to known t))) c.in-At.is
          ∙ ap through (onto k ∙ c.in-Some.ensures.some known (node k).module_number c.requires.known)
          ∙ steps-then steps step (first_deciding code (walks_to known edge.target))
          ∙ ap (λ (x : List StepValue). option_map (after_steps x) (first_deciding code (walks_to known edge.target))) (sym c.push.ensures.steps);
    }
