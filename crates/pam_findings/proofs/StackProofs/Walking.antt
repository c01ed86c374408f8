-- The steps of the walks of a graph are by the edges of its nodes.
use Rattle.std.proofs.Common.{◌≡◌, ℕ, true, List, [], ◌∷◌, ◌++◌, refl, sym, ◌∙◌, ap, subst, inl, inr, slice_index_or, suc, zero}
use Rattle.std.proofs.lemmas.Bool.{eq-eqb, or_left, or_right}
use Rattle.std.specs.List.{flat_map}
use Rattle.std.specs.Prelude.{◌==◌}
use Rattle.pam_conf.specs.Stack.{Items, module_count}
use Rattle.pam_dispatch.specs.State.{start_state}
use Rattle.pam_dispatch.specs.Tree.{asked}
use Rattle.pam_graph.specs.declared.node.Edge.{Edge}
use Rattle.pam_graph.specs.declared.node.Node.{Node}
use Rattle.pam_graph.specs.declared.node.Target.{Target}
use Rattle.pam_graph.specs.declared.node.Target.TheVariants.{At, End}
use Rattle.pam_graph.specs.Walks.{table, walks_at, walks_by, walks_of, walks_to}
use Rattle.pam_graph.proofs.Tables.{table-begins}
use Rattle.pam_text.specs.Members.{Member}
use Rattle.pam_paths.specs.Computed.{after_step}
use Rattle.pam_paths.specs.Listing.{Allowance, IsListing}
use Rattle.pam_paths.specs.Paths.{PathValue, StepValue, path_through, step_by}
use Rattle.pam_paths.proofs.Listings.{Member-cases, Member-map, Member-map_back}
use Rattle.pam_findings.specs.stack.Asked.{Asks}
use Rattle.pam_findings.specs.stack.inner.Marks.{has_number}

-- A STEP OF A WALK IS BY AN EDGE OF A NODE, and where the edge leads the walk goes on to its decision; `known` are the walks from each
-- node on
pub record IsStepBy (nodes : List Node) (known : List (List PathValue)) (step : StepValue) (decision : ℕ) : Type 0 where
  pub node : Node
  pub node_in : Member node nodes
  pub edge : Edge
  pub edge_in : Member edge node.edges.items
  pub number : step.module_number ≡ node.module_number
  pub class : step.class ≡ edge.class
  pub rest : PathValue
  pub goes_on : Member rest (walks_to known edge.target)
  pub decides : decision ≡ rest.decision

-- the step of an edge of a node whose module has this number
abbrev step_on : ℕ → Edge → StepValue
step_on number edge = record { module_number = number; class = edge.class }

-- the walks from a target stay when nodes are added
index-more : (known more : List (List PathValue)) (index : ℕ) (walk : PathValue) → Member walk (slice_index_or known index []) →
    Member walk (slice_index_or (known ++ more) index [])
unfolding Member
index-more [] more index walk h = absurd h
index-more (walks ∷ known) more zero walk h = h
index-more (walks ∷ known) more (suc index) walk h = index-more known more index walk h

to-more : (known more : List (List PathValue)) (target : Target) (walk : PathValue) → Member walk (walks_to known target) →
    Member walk (walks_to (known ++ more) target)
to-more known more (At index) walk h = index-more known more index walk h
to-more known more (End decision) walk h = h

module _ (Holds : StepValue → ℕ → Type 0) where
  -- it holds of each step of the walks, with the decision of its walk
  abbrev Steps-so : List PathValue → Type 0
  Steps-so walks = (walk : PathValue) → Member walk walks → (step : StepValue) → Member step walk.steps → Holds step walk.decision

  unfoldable All-so : List (List PathValue) → Type 0
  All-so [] = Unit {0}
  All-so (walks ∷ known) = Steps-so walks × All-so known

  -- it holds of the step of an edge, with the decision of each walk that goes on from there
  abbrev Edge-so : List (List PathValue) → ℕ → Edge → Type 0
  Edge-so known number edge = (rest : PathValue) → Member rest (walks_to known edge.target) → Holds (step_on number edge) rest.decision

  none-so : Steps-so []
  unfolding Member
  none-so walk member step among = absurd member

  index-so : (known : List (List PathValue)) (index : ℕ) → All-so known → Steps-so (slice_index_or known index [])
  unfolding All-so
  index-so [] index h = none-so
  index-so (walks ∷ known) zero h = h.0
  index-so (walks ∷ known) (suc index) h = index-so known index h.1

  push-so : (known : List (List PathValue)) (walks : List PathValue) → All-so known → Steps-so walks → All-so (known ++ walks ∷ [])
  unfolding All-so
  push-so [] walks h k = (k, tt)
  push-so (x ∷ known) walks h k = (h.0, push-so known walks h.1 k)

  to-so : (known : List (List PathValue)) (target : Target) → All-so known → Steps-so (walks_to known target)
  unfolding Member
  to-so known (At index) h = index-so known index h
  to-so known (End decision) h = λ walk member step among. elim member [
    | inl e ↦ let none : Member step [] = subst (λ (p : PathValue). Member step p.steps) e among in absurd none
    | inr i ↦ absurd i
  ]

  by-so : (known : List (List PathValue)) (number : ℕ) (edge : Edge) → Edge-so known number edge → All-so known → Steps-so (walks_by known number edge)
  unfolding Member
  by-so known number edge here h walk member step among =
      let first = step_on number edge in
      let rest = Member-map_back (after_step first) walk (walks_to known edge.target) member in
      let steps : Member step (first ∷ rest.0.steps) = subst (λ (p : PathValue). Member step p.steps) rest.2 among in
      subst (Holds step) (sym (ap (λ (p : PathValue). p.decision) rest.2)) (elim steps [
        | inl e ↦ subst (λ (s : StepValue). Holds s rest.0.decision) (sym e) (here rest.0 rest.1)
        | inr i ↦ to-so known edge.target h rest.0 rest.1 step i
      ])

  edges-so : (known : List (List PathValue)) (number : ℕ) (edges : List Edge) → ((edge : Edge) → Member edge edges → Edge-so known number edge) →
      All-so known → Steps-so (flat_map (walks_by known number) edges)
  unfolding Member
  edges-so known number [] here h = none-so
  edges-so known number (edge ∷ edges) here h = λ walk member step among.
      elim (Member-cases walk (walks_by known number edge) (flat_map (walks_by known number) edges) member) [
        | inl i ↦ by-so known number edge (here edge (inl refl)) h walk i step among
        | inr i ↦ edges-so known number edges (λ other j. here other (inr j)) h walk i step among
      ]

  table-so : (all known : List (List PathValue)) (nodes : List Node) → all ≡ table walks_at known nodes → All-so known →
      ((node : Node) → Member node nodes → (edge : Edge) → Member edge node.edges.items → Edge-so all node.module_number edge) → All-so all
  unfolding Member table
  table-so all known [] is h each = subst All-so (sym is) h
  table-so all known (node ∷ nodes) is h each =
      let begins = table-begins walks_at known (node ∷ nodes) in
      let whole : all ≡ known ++ begins.0 = is ∙ begins.1 in
      table-so all (known ++ walks_at known node ∷ []) nodes is
      (push-so known (walks_at known node) h (edges-so known node.module_number node.edges.items
      (λ edge i rest m. each node (inl refl) edge i rest
      (subst (λ (x : List (List PathValue)). Member rest (walks_to x edge.target)) (sym whole) (to-more known begins.0 edge.target rest m))) h))
      (λ other i. each other (inr i))

pub walks-by : (nodes : List Node) (start : Target) (walk : PathValue) → Member walk (walks_to (walks_of nodes) start) →
    (step : StepValue) → Member step walk.steps → IsStepBy nodes (walks_of nodes) step walk.decision
unfolding All-so
walks-by nodes start =
    let known = walks_of nodes in
    let all = table-so (IsStepBy nodes known) known [] nodes refl tt (λ node i edge j rest m. record {
      node = node;
      node_in = i;
      edge = edge;
      edge_in = j;
      number = refl;
      class = refl;
      rest = rest;
      goes_on = m;
      decides = refl;
    }) in
    to-so (IsStepBy nodes known) known start all

-- the module of a node is one of them
node-has : (nodes : List Node) (node : Node) → Member node nodes → has_number node.module_number nodes ≡ true
unfolding Member
node-has [] node h = absurd h
node-has (x ∷ nodes) node (inl e) =
    or_left (node.module_number == x.module_number) _ (eq-eqb node.module_number x.module_number (ap (λ (y : Node). y.module_number) e))
node-has (x ∷ nodes) node (inr h) = or_right (node.module_number == x.module_number) _ (node-has nodes node h)

-- a module that some run asks has a node
pub asked-has : (allows : Allowance) (items : Items) (nodes : List Node) (start : Target) (number : ℕ) →
    IsListing allows (module_count items) (path_through items) (walks_to (walks_of nodes) start) → Asks allows items number →
    has_number number nodes ≡ true
unfolding path_through
asked-has allows items nodes start number is a =
    let walk = path_through items a.answers in
    let member = (is.members walk).1 (a.answers, a.allowed, refl) in
    let step = Member-map (step_by a.answers) a.ask (asked items start_state start_state a.answers) a.is_asked in
    let by = walks-by nodes start walk member (step_by a.answers a.ask) step in
    subst (λ (n : ℕ). has_number n nodes ≡ true) (sym by.number ∙ a.numbered) (node-has nodes by.node by.node_in)
