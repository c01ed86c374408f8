-- The lanes of a picture, from how they are laid out.
use Rattle.std.proofs.Common.{◌≡◌, ◌∙◌, ℕ, ◌<◌, zero, suc, Bool, true, false, ◌||◌, cond, List, [], ◌∷◌, Option, Some}
use Rattle.std.proofs.Common.{None, ap, arith, length, map, refl, slice_get, subst, sym}
use Rattle.std.proofs.lemmas.Bool.{eq-eqb, eqb-true}
use Rattle.std.proofs.lemmas.List.{length-map}
use Rattle.std.proofs.lemmas.List.FromFn.{length-map-range_with_len}
use Rattle.std.proofs.lemmas.Option.{get_or_from_slice_get, slice_get_within}
use Rattle.std.specs.List.{AllPairs, list_any, range_with_len}
use Rattle.std.specs.Option.{option_map_or}
use Rattle.pam_codes.specs.Set.{is_in}
use Rattle.pam_codes.specs.declared.code.TheConstants.{CODES}
use Rattle.pam_dispatch.specs.declared.state.State.{State}
use Rattle.pam_drawing.specs.Drawing.{drawn_ends}
use Rattle.pam_graph.specs.Walks.{GraphValue}
use Rattle.pam_graph.specs.declared.node.Node.{Node}
use Rattle.pam_drawing.proofs.PictureProofs.Orders.{pairs-map}
use Rattle.pam_drawing.proofs.PictureProofs.Ranges.{entry, numbered, same}
use Rattle.pam_drawing.specs.picture.Lanes.{HasLanes, IsEndInLane, IsInLane, IsOver, end_state}
use Rattle.pam_drawing.specs.picture.Places.{no_end, origin}
use Rattle.pam_drawing.specs.declared.picture.layout.Layout.{Layout}
use Rattle.pam_drawing.specs.declared.picture.layout.heights.Heights.{Heights}
use Rattle.pam_drawing.specs.declared.picture.layout.lanes.Lanes.{Lanes}
use Rattle.pam_drawing.specs.declared.picture.layout.ports.Ports.{Ports}
use Rattle.pam_drawing.specs.declared.picture.layout.shapes.EndPlace.{EndPlace}
use Rattle.pam_drawing.specs.declared.picture.layout.shapes.Lane.{Lane}
use Rattle.pam_drawing.specs.declared.picture.layout.shapes.Place.{Place}
use Rattle.pam_drawing.specs.declared.picture.layout.shapes.Point.{Point}
use Rattle.pam_drawing.specs.picture.inner.Laned.{AreLaid, end_in, height_in, height_of, lane_at, lane_of, leaves, middle_in, number_at, point_of_end}
use Rattle.pam_drawing.specs.picture.inner.Laned.{state_at, state_in, state_of}

nothing-is-none : {A : Type 0} {x : A} → None ≡ Some x → ⊥
nothing-is-none {A} {x} e =
    let apart : 0 ≡ 1 = ap {B = ℕ} (λ (o : Option A). option_map_or (λ (z : A). 1) o 0) e in
    omega (arith, apart)

false-is-true : false ≡ true → ⊥
false-is-true e =
    let apart : 0 ≡ 1 = ap {B = ℕ} (λ (t : Bool). cond t 1 0) e in
    omega (arith, apart)

exists : {A : Type 0} (xs : List A) (k : ℕ) → k < length xs → (x : A) × (slice_get xs k ≡ Some x)
exists [] k h = absurd (omega (arith, h))
exists (x ∷ xs) zero h = (x, refl)
exists (x ∷ xs) (suc k) h = exists xs k (omega (arith, h))

pub get-map : {A B : Type 0} (f : A → B) (xs : List A) (k : ℕ) (x : A) → slice_get xs k ≡ Some x → slice_get (map f xs) k ≡ Some (f x)
get-map f [] k x e = absurd (nothing-is-none e)
get-map f (y ∷ xs) zero x e = ap Some (ap f (same e))
get-map f (y ∷ xs) (suc k) x e = get-map f xs k x e

pub map-got : {A B : Type 0} (f : A → B) (xs : List A) (k : ℕ) (y : B) → slice_get (map f xs) k ≡ Some y → (x : A) × (slice_get xs k ≡ Some x) × (f x ≡ y)
map-got f [] k y e = absurd (nothing-is-none e)
map-got f (x ∷ xs) zero y e = (x, refl, same e)
map-got f (x ∷ xs) (suc k) y e = map-got f xs k y e

some-passes : {A : Type 0} (p : A → Bool) (xs : List A) (k : ℕ) (x : A) → slice_get xs k ≡ Some x → p x ≡ true → list_any p xs ≡ true
some-passes p [] k x e h = absurd (nothing-is-none e)
some-passes p (y ∷ xs) zero x e h = rw (ap p (same e) ∙ h) refl
some-passes p (y ∷ xs) (suc k) x e h =
    elim (p y) as (λ (t : Bool). (t || list_any p xs) ≡ true) [ true ↦ refl | false ↦ some-passes p xs k x e h ]

which-passes : {A : Type 0} (p : A → Bool) (xs : List A) → list_any p xs ≡ true → (k : ℕ) × (x : A) × (slice_get xs k ≡ Some x) × (p x ≡ true)
which-passes p [] = λ e. absurd (false-is-true e)
which-passes {A} p (y ∷ xs) =
    elim (p y) as (λ (t : Bool). p y ≡ t → (t || list_any p xs) ≡ true → (k : ℕ) × (x : A) × (slice_get (y ∷ xs) k ≡ Some x) × (p x ≡ true)) [
      | true ↦ λ h e. (0, y, refl, h)
      | false ↦ λ h e. let r = which-passes p xs e in (suc r.0, r.1, r.2, r.3)
    ] refl

module _ (graph : GraphValue) (lanes : Lanes) (all : List Ports) (heights : List Heights) (x : ℕ) (layout : Layout)
    (laid : AreLaid graph lanes all heights) (laned : layout.lanes.items ≡ map lane_at heights)
    (placed : map height_of layout.places.items ≡ map (height_in heights lanes.of_nodes.items) (range_with_len 0 (length graph.nodes)))
    (ended : map point_of_end layout.ends.items ≡ map (end_in x heights lanes.of_ends.items) (range_with_len 0 CODES)) where
  -- a node, and the lane that it is in
  in-lane : (index : ℕ) (node : Node) → slice_get graph.nodes index ≡ Some node
      → (number : ℕ) × (h : Heights) × (slice_get heights number ≡ Some h) × (number_at lanes.of_nodes.items index ≡ number)
      × IsInLane layout index node h.lane
  in-lane index node at =
      let within = slice_get_within graph.nodes index node at in
      let told = ap (λ (l : List (Option State)). slice_get l index) laid.in_lanes.nodes ∙ get-map state_of graph.nodes index node at in
      let own = map-got (slice_get lanes.states.items) lanes.of_nodes.items index (Some node.state) told in
      let number = own.0 in
      let is = get_or_from_slice_get lanes.of_nodes.items index number 0 own.1 in
      let lane = entry state_at (state_in all lanes.states.items) (length lanes.states.items) number heights laid.states
      (slice_get_within lanes.states.items number node.state own.2) in
      let ports = entry lane_of (number_at lanes.of_nodes.items) (length graph.nodes) index all laid.leaving within in
      let used : list_any (leaves number) all ≡ true =
      some-passes (leaves number) all index ports.0 ports.1 (eq-eqb (lane_of ports.0) number (ports.2 ∙ is)) in
      let place = entry height_of (height_in heights lanes.of_nodes.items) (length graph.nodes) index layout.places.items placed within in
      let state : lane.0.lane.state ≡ Some node.state =
      lane.2 ∙ ap (λ (t : Bool). cond t (slice_get lanes.states.items number) None) used ∙ own.2 in
      let height = ap (λ (o : Option Place). (option_map_or (λ (p : Place). p.point) o origin).y) place.1 ∙ place.2
      ∙ ap (middle_in heights) is ∙ ap (λ (o : Option Heights). option_map_or (λ (h : Heights). h.lane.middle) o 0) lane.1 in
      (number, lane.0, lane.1, is, (state, height))

  node-in : (number : ℕ) (lane : Lane) (state : State) → slice_get layout.lanes.items number ≡ Some lane → lane.state ≡ Some state
      → (index : ℕ) × (node : Node) × (slice_get graph.nodes index ≡ Some node) × IsInLane layout index node lane
  node-in number lane state at is =
      let h = map-got lane_at heights number lane (ap (λ (l : List Lane). slice_get l number) (sym laned) ∙ at) in
      let its = numbered state_at (state_in all lanes.states.items) (length lanes.states.items) number heights h.0 laid.states h.1 in
      let told : state_in all lanes.states.items number ≡ Some state = sym its.1 ∙ ap (λ (l : Lane). l.state) h.2 ∙ is in
      let used : list_any (leaves number) all ≡ true =
      elim (list_any (leaves number) all) as (λ (t : Bool). cond t (slice_get lanes.states.items number) None ≡ Some state → t ≡ true) [
        | true ↦ λ e. refl
        | false ↦ λ e. absurd (nothing-is-none e)
      ] told in
      let ports = which-passes (leaves number) all used in
      let index = ports.0 in
      let leaving = numbered lane_of (number_at lanes.of_nodes.items) (length graph.nodes) index all ports.1 laid.leaving ports.2 in
      let node = exists graph.nodes index leaving.0 in
      let own = in-lane index node.0 node.1 in
      let same-number : own.0 ≡ number = sym own.3 ∙ sym leaving.1 ∙ eqb-true (lane_of ports.1) number ports.3 in
      let same-lane : own.1.lane ≡ lane =
      ap lane_at (same (sym own.2 ∙ ap (slice_get heights) same-number ∙ h.1)) ∙ h.2 in
      (index, node.0, node.1, subst (IsInLane layout index node.0) same-lane own.4)

  -- a state, and the lane that is for it
  lane-for : (number : ℕ) (state : State) → slice_get lanes.states.items number ≡ Some state → (h : Heights) × (slice_get heights number ≡ Some h)
  lane-for number state at =
      let lane = entry state_at (state_in all lanes.states.items) (length lanes.states.items) number heights laid.states
      (slice_get_within lanes.states.items number state at) in
      (lane.0, lane.1)

  named : (number : ℕ) (lane : Lane) (state : State) → slice_get layout.lanes.items number ≡ Some lane → lane.state ≡ Some state
      → slice_get lanes.states.items number ≡ Some state
  named number lane state at is =
      let h = map-got lane_at heights number lane (ap (λ (l : List Lane). slice_get l number) (sym laned) ∙ at) in
      let its = numbered state_at (state_in all lanes.states.items) (length lanes.states.items) number heights h.0 laid.states h.1 in
      let told : state_in all lanes.states.items number ≡ Some state = sym its.1 ∙ ap (λ (l : Lane). l.state) h.2 ∙ is in
      elim (list_any (leaves number) all) as (λ (t : Bool). cond t (slice_get lanes.states.items number) None ≡ Some state
      → slice_get lanes.states.items number ≡ Some state) [
        | true ↦ λ e. e
        | false ↦ λ e. absurd (nothing-is-none e)
      ] told

  end-in-lane : (decision : ℕ) → decision < CODES → is_in decision (drawn_ends graph) ≡ true → IsEndInLane graph.nodes lanes.states.items layout decision
  end-in-lane decision small drawn =
      let number = number_at lanes.of_ends.items decision in
      let state = laid.in_lanes.ends decision small drawn in
      let lane = lane-for number (end_state graph.nodes decision) state in
      let end = entry point_of_end (end_in x heights lanes.of_ends.items) CODES decision layout.ends.items ended small in
      let at = get_or_from_slice_get layout.ends.items decision end.0 no_end end.1 in
      let height = ap (λ (e : EndPlace). e.point.y) at ∙ ap (λ (p : Point). p.y) end.2
      ∙ ap (λ (o : Option Heights). option_map_or (λ (h : Heights). h.lane.middle) o 0) lane.1 in
      (number, lane.0.lane, ap (λ (l : List Lane). slice_get l number) laned ∙ get-map lane_at heights number lane.0 lane.1, state, height)

  pub has-lanes : HasLanes graph layout
  has-lanes = record {
    states = lanes.states.items;
    count =
        let these = length-map heights state_at in
        let those = length-map heights lane_at in
        let ranged = ap length laid.states in
        let long = length-map-range_with_len (state_in all lanes.states.items) 0 (length lanes.states.items) in
        let same-lanes = ap length laned in
        omega (arith, these, those, ranged, long, same-lanes);
    order = laid.in_lanes.order;
    heights = subst (AllPairs IsOver) (sym laned) (pairs-map IsOver lane_at heights laid.order);
    names = named;
    each_node = λ index node at.
        let own = in-lane index node at in
        (own.0, own.1.lane, ap (λ (l : List Lane). slice_get l own.0) laned ∙ get-map lane_at heights own.0 own.1 own.2, own.4);
    each_lane = node-in;
    each_end = end-in-lane;
  }
