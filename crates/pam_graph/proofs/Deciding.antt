-- The codes that walks decide.
use Rattle.std.proofs.Common.{◌≡◌, ℕ, ◌+◌, ◌<◌, ◌≤◌, Bool, true, false, ◌||◌, List, [], ◌∷◌, ◌++◌, Option, None, Some, map, cond, refl, sym, ◌∙◌, ap, subst}
use Rattle.std.proofs.Common.{append_assoc, append-nil, filter, length, slice_index_or}
use Rattle.std.proofs.lemmas.Bool.{false≢true}
use Rattle.std.proofs.lemmas.List.{length-map}
use Rattle.std.proofs.lemmas.List.Elements.{filter-append}
use Rattle.std.proofs.lemmas.List.Folds.{list_any-append}
use Rattle.std.proofs.lemmas.Option.{none-some, slice_get-map}
use Rattle.std.proofs.Math.ListN.{get_or-map}
use Rattle.std.specs.List.{flat_map, list_any}
use Rattle.std.specs.Option.{option_map}
use Rattle.std.specs.Prelude.{slice_get, ◌==◌}
use Rattle.pam_codes.specs.Code.{all_codes}
use Rattle.pam_codes.specs.Set.{codes_where, is_in}
use Rattle.pam_codes.specs.inner.SetBits.{codes_where-same, is_in-codes_where}
use Rattle.pam_conf.specs.declared.stack.TheConstants.{MAX_MODULES}
use Rattle.pam_graph.specs.declared.direction.Direction.TheVariants.{Forward}
use Rattle.pam_graph.specs.declared.frames.Frame.{Frame}
use Rattle.pam_graph.specs.declared.goal.Goal.TheVariants.{Any, Decides}
use Rattle.pam_graph.specs.declared.node.Edge.{Edge}
use Rattle.pam_graph.specs.declared.node.Node.{Node}
use Rattle.pam_graph.specs.declared.node.Target.{Target}
use Rattle.pam_graph.specs.declared.node.Target.TheVariants.{At, End}
use Rattle.pam_graph.specs.inner.Deciding.{after_steps, decided_by, decided_of, first_deciding, leads_to, with_edges, with_target}
use Rattle.pam_graph.specs.Goals.{decided, is_decided, meeting, meets}
use Rattle.pam_graph.specs.Walks.{table, walks_at, walks_by, walks_of, walks_to}
use Rattle.pam_graph.specs.inner.Within.{AreWithin, IsWithin, height}
use Rattle.pam_graph.specs.Order.{AreAbove, AreNodes, IsAbove, numbers_of}
use Rattle.pam_graph.specs.inner.Frames.{IsFrame}
use Rattle.pam_graph.proofs.Counting.{ended, table-map, wanted-stepped}
use Rattle.pam_graph.proofs.FrameLists.{frame-above, frame-room, node-framed, node-inside}
use Rattle.pam_graph.proofs.Sides.{node-lower, node-valid, walks-node}
use Rattle.pam_graph.proofs.Tables.{length-walks_of}
use Rattle.pam_graph.proofs.Withins.{AreAbove-within}
use Rattle.pam_paths.specs.Computed.{after_step}
use Rattle.pam_paths.specs.Paths.{PathValue, StepValue}

or-swap : (a b : Bool) → (a || b) ≡ (b || a)
or-swap true true = refl
or-swap true false = refl
or-swap false true = refl
or-swap false false = refl

or-nothing : (a : Bool) → (a || false) ≡ a
or-nothing true = refl
or-nothing false = refl

is_in-decided : (paths : List PathValue) (code : ℕ) → code < 31 → is_in code (decided paths) ≡ is_decided paths code
unfolding decided
is_in-decided paths code low = is_in-codes_where (is_decided paths) code low

pub decided-none : decided [] ≡ []
unfolding decided all_codes
decided-none = refl

-- the codes of walks, and then of other walks
decided-append : (one other : List PathValue) → codes_where (λ c. is_in c (decided one) || is_in c (decided other)) ≡ decided (one ++ other)
unfolding decided
decided-append one other =
    codes_where-same _ _ (λ code low.
    ap (λ (t : Bool). t || is_in code (decided other)) (is_in-decided one code low)
    ∙ ap (λ (t : Bool). is_decided one code || t) (is_in-decided other code low)
    ∙ sym (list_any-append (meets (Decides (code ∷ []))) one other))

-- a first step decides nothing
decided-stepped : (step : StepValue) (walks : List PathValue) → decided (map (after_step step) walks) ≡ decided walks
unfolding decided
decided-stepped step walks = codes_where-same _ _ (λ code low. stepped code walks)
  where
    stepped : (code : ℕ) (xs : List PathValue) → is_decided (map (after_step step) xs) code ≡ is_decided xs code
    stepped code [] = refl
    stepped code (x ∷ xs) = ap (λ (t : Bool). meets (Decides (code ∷ [])) x || t) (stepped code xs)

-- the end of a run decides its decision
ended-decides : (decision code : ℕ) → is_decided (ended decision ∷ []) code ≡ (code == decision)
ended-decides decision code = or-nothing ((code == decision) || false) ∙ or-nothing (code == decision)

known-at : (known : List (List PathValue)) (index : ℕ) → slice_index_or (map decided known) index [] ≡ decided (walks_to known (At index))
known-at known index =
    ap (slice_index_or (map decided known) index) (sym decided-none) ∙ get_or-map decided known index []

-- THE CODES THAT THE WALKS FROM A TARGET ON DECIDE, from those of each node

with-end : (sofar : List PathValue) (d : ℕ) → codes_where (λ c. (c == d) || is_in c (decided sofar)) ≡ decided (sofar ++ ended d ∷ [])
unfolding decided
with-end sofar d =
    codes_where-same _ _ (λ code low.
    ap (λ (t : Bool). (code == d) || t) (is_in-decided sofar code low)
    ∙ or-swap (code == d) (is_decided sofar code)
    ∙ ap (λ (t : Bool). is_decided sofar code || t) (sym (ended-decides d code))
    ∙ sym (list_any-append (meets (Decides (code ∷ []))) sofar (ended d ∷ [])))

pub with-to : (known : List (List PathValue)) (sofar : List PathValue) (t : Target) →
    with_target (map decided known) (decided sofar) t ≡ decided (sofar ++ walks_to known t)
with-to known sofar (At index) =
    ap (λ (x : List ℕ). codes_where (λ c. is_in c (decided sofar) || is_in c x)) (known-at known index)
    ∙ decided-append sofar (walks_to known (At index))
with-to known sofar (End decision) = with-end sofar decision

with-walks : (known : List (List PathValue)) (m : ℕ) (sofar : List PathValue) (edges : List Edge) →
    with_edges (map decided known) (decided sofar) edges ≡ decided (sofar ++ flat_map (walks_by known m) edges)
unfolding with_edges
with-walks known m sofar [] = ap decided (sym (append-nil sofar))
with-walks known m sofar (edge ∷ edges) =
    let step : StepValue = record { module_number = m; class = edge.class } in
    let below : List PathValue = walks_to known edge.target in
    let here : List PathValue = map (after_step step) below in
    let one : with_target (map decided known) (decided sofar) edge.target ≡ decided (sofar ++ here) =
    with-to known sofar edge.target
    ∙ sym (decided-append sofar below)
    ∙ ap (λ (x : List ℕ). codes_where (λ c. is_in c (decided sofar) || is_in c x)) (sym (decided-stepped step below))
    ∙ decided-append sofar here in
    ap (λ (x : List ℕ). with_edges (map decided known) x edges) one
    ∙ with-walks known m (sofar ++ here) edges
    ∙ ap decided (append_assoc sofar here (flat_map (walks_by known m) edges))

decided-at : (known : List (List PathValue)) (node : Node) → decided (walks_at known node) ≡ decided_by (map decided known) node
decided-at known node =
    sym (ap (λ (x : List ℕ). with_edges (map decided known) x node.edges.items) (sym decided-none)
    ∙ with-walks known node.module_number [] node.edges.items)

pub decided-table : (nodes : List Node) → decided_of nodes ≡ table decided_by [] nodes
decided-table nodes = table-map decided walks_at decided_by decided-at [] nodes

pub decided-start : (nodes : List Node) (t : Target) → with_target (decided_of nodes) [] t ≡ decided (walks_to (walks_of nodes) t)
decided-start nodes t =
    ap (λ (x : List ℕ). with_target (decided_of nodes) x t) (sym decided-none) ∙ with-to (walks_of nodes) [] t

-- WHETHER A WALK DECIDES A CODE

leads-is : (known : List (List PathValue)) (code : ℕ) (t : Target) → code < 31 →
    leads_to (map decided known) code t ≡ is_decided (walks_to known t) code
leads-is known code (At index) low = ap (is_in code) (known-at known index) ∙ is_in-decided (walks_to known (At index)) code low
leads-is known code (End decision) low = sym (ended-decides decision code)

first-none : (p : PathValue → Bool) (xs : List PathValue) → list_any p xs ≡ false → slice_get (filter p xs) 0 ≡ None
first-none p [] h = refl
first-none p (x ∷ xs) h =
    elim (p x) as (λ (t : Bool). (t || list_any p xs) ≡ false → slice_get (cond t (x ∷ filter p xs) (filter p xs)) 0 ≡ None) [
      | true ↦ λ e. absurd (false≢true (sym e))
      | false ↦ λ e. first-none p xs e
    ] h

first-some : (p : PathValue → Bool) (xs : List PathValue) → list_any p xs ≡ true → slice_get (filter p xs) 0 ≡ None → ⊥
first-some p [] h = absurd (false≢true h)
first-some p (x ∷ xs) h =
    elim (p x) as (λ (t : Bool). (t || list_any p xs) ≡ true → slice_get (cond t (x ∷ filter p xs) (filter p xs)) 0 ≡ None → ⊥) [
      | true ↦ λ e n. none-some x (sym n)
      | false ↦ λ e n. first-some p xs e n
    ] h

pub none-first : (known : List (List PathValue)) (code : ℕ) (t : Target) → code < 31 → leads_to (map decided known) code t ≡ false →
    first_deciding code (walks_to known t) ≡ None
unfolding first_deciding
none-first known code t low h = first-none (meets (Decides (code ∷ []))) (walks_to known t) (sym (leads-is known code t low) ∙ h)

pub some-first : (known : List (List PathValue)) (code : ℕ) (t : Target) → code < 31 → leads_to (map decided known) code t ≡ true →
    first_deciding code (walks_to known t) ≡ None → ⊥
unfolding first_deciding
some-first known code t low h = first-some (meets (Decides (code ∷ []))) (walks_to known t) (sym (leads-is known code t low) ∙ h)

-- THE FIRST WALK THAT DECIDES A CODE

head-skip : (xs ys : List PathValue) → slice_get xs 0 ≡ None → slice_get (xs ++ ys) 0 ≡ slice_get ys 0
head-skip [] ys h = refl
head-skip (x ∷ xs) ys h = absurd (none-some x (sym h))

head-keep : (xs ys : List PathValue) → (slice_get xs 0 ≡ None → ⊥) → slice_get (xs ++ ys) 0 ≡ slice_get xs 0
head-keep [] ys h = absurd (h refl)
head-keep (x ∷ xs) ys h = refl

module _ (known : List (List PathValue)) (code m : ℕ) (edge : Edge) (edges : List Edge) (low : code < 31) where
  abbrev step : StepValue
  step = record { module_number = m; class = edge.class }

  abbrev deciding : List PathValue → List PathValue
  deciding walks = meeting (Decides (code ∷ [])) walks

  stepped : first_deciding code (walks_by known m edge) ≡ option_map (after_step step) (first_deciding code (walks_to known edge.target))
  unfolding first_deciding
  stepped =
      ap (λ (xs : List PathValue). slice_get xs 0) (wanted-stepped (Decides (code ∷ [])) false step (walks_to known edge.target))
      ∙ slice_get-map (after_step step) (deciding (walks_to known edge.target)) 0

  both : deciding (flat_map (walks_by known m) (edge ∷ edges)) ≡ deciding (walks_by known m edge) ++ deciding (flat_map (walks_by known m) edges)
  both = filter-append (meets (Decides (code ∷ []))) (walks_by known m edge) (flat_map (walks_by known m) edges)

  -- no walk by the first edge decides it
  pub skip-edge : leads_to (map decided known) code edge.target ≡ false →
      first_deciding code (flat_map (walks_by known m) (edge ∷ edges)) ≡ first_deciding code (flat_map (walks_by known m) edges)
  unfolding first_deciding
  skip-edge h =
      ap (λ (xs : List PathValue). slice_get xs 0) both
      ∙ head-skip (deciding (walks_by known m edge)) (deciding (flat_map (walks_by known m) edges))
      (stepped ∙ ap (option_map (after_step step)) (none-first known code edge.target low h))

  -- some walk by the first edge decides it
  pub take-edge : leads_to (map decided known) code edge.target ≡ true →
      first_deciding code (flat_map (walks_by known m) (edge ∷ edges))
      ≡ option_map (after_step step) (first_deciding code (walks_to known edge.target))
  unfolding first_deciding
  take-edge h =
      ap (λ (xs : List PathValue). slice_get xs 0) both
      ∙ head-keep (deciding (walks_by known m edge)) (deciding (flat_map (walks_by known m) edges))
      (λ none. mapped-some (first_deciding code (walks_to known edge.target)) (sym stepped ∙ none) (some-first known code edge.target low h))
      ∙ stepped
    where
      mapped-some : (o : Option PathValue) → option_map (after_step step) o ≡ None → (o ≡ None → ⊥) → ⊥
      mapped-some None e h = h refl
      mapped-some (Some walk) e h = none-some (after_step step walk) (sym e)

abbrev whole : List StepValue → ℕ → PathValue
whole steps decision = record { steps = steps; decision = decision }

-- steps, and then one more
pub steps-then : (steps : List StepValue) (next : StepValue) (o : Option PathValue) →
    option_map (after_steps steps) (option_map (after_step next) o) ≡ option_map (after_steps (steps ++ next ∷ [])) o
steps-then steps next None = refl
steps-then steps next (Some walk) =
    ap (λ (x : List StepValue). Some (whole x walk.decision)) (sym (append_assoc steps (next ∷ []) walk.steps))

-- steps, and then an end that decides the code
pub steps-end : (steps : List StepValue) (code decision : ℕ) (path : PathValue) → (first_deciding code (ended decision ∷ []) ≡ None → ⊥) →
    path.steps ≡ steps → path.decision ≡ decision →
    option_map (after_steps steps) (first_deciding code (ended decision ∷ [])) ≡ Some path
unfolding first_deciding
steps-end steps code decision path some same there =
    let is : Some (whole (steps ++ []) decision) ≡ Some path =
    ap (λ (x : List StepValue). Some (whole x decision)) (append-nil steps ∙ sym same)
    ∙ ap (λ (d : ℕ). Some (whole path.steps d)) (sym there) in
    elim (code == decision) as (λ (t : Bool). (slice_get (cond (t || false) (ended decision ∷ []) []) 0 ≡ None → ⊥)
    → option_map (after_steps steps) (slice_get (cond (t || false) (ended decision ∷ []) []) 0) ≡ Some path) [
      | true ↦ λ k. is
      | false ↦ λ k. absurd (k refl)
    ] some

pub steps-none : (o : Option PathValue) → option_map (after_steps []) o ≡ o
steps-none None = refl
steps-none (Some walk) = refl

-- A NODE ON THE FIRST WALK

module _ (nodes : List Node) (order : AreNodes [] nodes) (index : ℕ) (node : Node) (at : node ≡ slice_index_or nodes index node) (low : ℕ)
    (above : IsAbove (numbers_of nodes) low (At index)) where
  inside : index < length nodes
  inside = node-inside nodes order index node at low above

  abbrev framed : Frame
  framed = record { node = index; module_number = node.module_number; next = 0; is_met = false; class = [] }

  is-framed : IsFrame nodes low framed
  is-framed = node-framed nodes order index node at low above framed refl refl

  pub room : low < MAX_MODULES
  room = frame-room Forward Any nodes order low framed node is-framed at

  pub number-last : node.module_number ≤ MAX_MODULES
  number-last = (node-valid nodes order index node inside at).last

  pub edges-within : (known : List (List ℕ)) → known ≡ decided_of nodes → AreWithin (length known) node.edges.items
  edges-within known same =
      subst (λ (n : ℕ). AreWithin n node.edges.items) (sym (ap length same ∙ length-map (walks_of nodes) decided ∙ length-walks_of nodes))
      (AreAbove-within nodes node.module_number node.edges.items (node-valid nodes order index node inside at).later)

  pub next-above : (t : Target) → ((numbers : List ℕ) (high : ℕ) → AreAbove numbers high node.edges.items → IsAbove numbers high t) →
      IsAbove (numbers_of nodes) (low + 1) t
  next-above t h = frame-above Forward Any nodes order low framed node is-framed at t h

  pub next-lower : (t : Target) → ((numbers : List ℕ) (high : ℕ) → AreAbove numbers high node.edges.items → IsAbove numbers high t) →
      height t < index + 1
  next-lower t h = node-lower nodes order index node inside at t h

  pub onward : walks_to (walks_of nodes) (At index) ≡ flat_map (walks_by (walks_of nodes) node.module_number) node.edges.items
  onward = walks-node nodes order index node inside at

-- a target within the nodes is within the codes of each
pub decided-within : (nodes : List Node) (known : List (List ℕ)) (t : Target) → known ≡ decided_of nodes → IsWithin (length nodes) t →
    IsWithin (length known) t
decided-within nodes known t same h =
    subst (λ (n : ℕ). IsWithin n t) (sym (ap length same ∙ length-map (walks_of nodes) decided ∙ length-walks_of nodes)) h
