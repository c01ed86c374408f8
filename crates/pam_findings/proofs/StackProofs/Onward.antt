-- What the walks from each node of a graph come to, node by node.
use Rattle.std.proofs.Common.{◌≡◌, ℕ, Bool, true, false, ◌&&◌, ◌||◌, List, [], ◌∷◌, map, refl, sym, ◌∙◌, ap}
use Rattle.std.proofs.lemmas.List.Folds.{list_any-append}
use Rattle.std.proofs.Math.ListN.{get_or-map}
use Rattle.std.specs.List.{flat_map, list_any}
use Rattle.pam_graph.specs.declared.node.Edge.{Edge}
use Rattle.pam_graph.specs.declared.node.Node.{Node}
use Rattle.pam_graph.specs.declared.node.Target.{Target}
use Rattle.pam_graph.specs.declared.node.Target.TheVariants.{At, End}
use Rattle.pam_graph.specs.Walks.{walks_at, walks_by, walks_of, walks_to}
use Rattle.pam_graph.proofs.Counting.{table-map}
use Rattle.pam_paths.specs.Computed.{after_step}
use Rattle.pam_paths.specs.Listing.{Allowance}
use Rattle.pam_paths.specs.Paths.{PathValue, StepValue}
use Rattle.pam_findings.specs.declared.stack.leading.Onward.{Onward}
use Rattle.pam_findings.specs.stack.inner.Leading.{codes_of, edge_asks, edge_goes_on, edge_leads, have_common, node_onward, onward_at, onwards}
use Rattle.pam_findings.specs.stack.inner.Marks.{mark_of}
use Rattle.pam_findings.proofs.StackProofs.CountingMarks.{and-false}

-- one more walk by a step that may ask a later module: `l` says that it does
asks-more : (l a t r : Bool) → ((l || a) || ((l && t) || r)) ≡ ((l && (true || t)) || (a || r))
asks-more true a t r = refl
asks-more false a t r = refl

-- one more walk by a step that may ask a first module, `f`, and get one of the codes, `g`
leads-none : (f g : Bool) → ((f && (g && false)) || false) ≡ false
leads-none true true = refl
leads-none true false = refl
leads-none false g = refl

leads-more : (f g a m r n : Bool) → (((f && (g && a)) || m) || ((f && (g && r)) || n)) ≡ ((f && (g && (a || r))) || (m || n))
leads-more true true true m r n = refl
leads-more true true false true true n = refl
leads-more true true false true false n = refl
leads-more true true false false r n = refl
leads-more true false a m r n = refl
leads-more false g a m r n = refl

same-onward : (one other : Onward) → one.goes_on ≡ other.goes_on → one.asks ≡ other.asks → one.leads ≡ other.leads → one ≡ other
same-onward one other goes_on asks leads =
    ap (λ (x : Bool). let o : Onward = record { goes_on = x; asks = one.asks; leads = one.leads } in o) goes_on
    ∙ ap (λ (x : Bool). let o : Onward = record { goes_on = other.goes_on; asks = x; leads = one.leads } in o) asks
    ∙ ap (λ (x : Bool). let o : Onward = record { goes_on = other.goes_on; asks = other.asks; leads = x } in o) leads

-- the walks by the edges of a node, edge by edge
edges-any : (p : PathValue → Bool) (q : Edge → Bool) (known : List (List PathValue)) (number : ℕ) →
    ((edge : Edge) → list_any p (walks_by known number edge) ≡ q edge) → (edges : List Edge) →
    list_any p (flat_map (walks_by known number) edges) ≡ list_any q edges
edges-any p q known number same [] = refl
edges-any p q known number same (edge ∷ edges) =
    list_any-append p (walks_by known number edge) (flat_map (walks_by known number) edges)
    ∙ ap (λ (t : Bool). t || list_any p (flat_map (walks_by known number) edges)) (same edge)
    ∙ ap (λ (t : Bool). q edge || t) (edges-any p q known number same edges)

module _ (allows : Allowance) (first : List Bool) (codes : List ℕ) (later : List Bool) where
  abbrev pub is_later : StepValue → Bool
  is_later step = mark_of later step.module_number

  -- a first module is asked, whose answer can be one of the codes, and then a later module
  unfoldable pub leads_steps : List StepValue → Bool
  leads_steps [] = false
  leads_steps (step ∷ steps) =
      (mark_of first step.module_number && (have_common step.class (codes_of allows codes step.module_number) && list_any is_later steps))
      || leads_steps steps

  abbrev is_walk : PathValue → Bool
  is_walk walk = true

  abbrev walk_asks : PathValue → Bool
  walk_asks walk = list_any is_later walk.steps

  abbrev pub walk_leads : PathValue → Bool
  walk_leads walk = leads_steps walk.steps

  abbrev onward_of : List PathValue → Onward
  onward_of walks = record { goes_on = list_any is_walk walks; asks = list_any walk_asks walks; leads = list_any walk_leads walks }

  target-onward : (known : List (List PathValue)) (target : Target) → onward_of (walks_to known target) ≡ onward_at (map onward_of known) target
  unfolding leads_steps
  target-onward known (At index) = sym (get_or-map onward_of known index [])
  target-onward known (End decision) = refl

  module _ (step : StepValue) where
    stepped-goes : (walks : List PathValue) → list_any is_walk (map (after_step step) walks) ≡ list_any is_walk walks
    stepped-goes [] = refl
    stepped-goes (walk ∷ walks) = refl

    stepped-asks : (walks : List PathValue) →
        list_any walk_asks (map (after_step step) walks) ≡ ((is_later step && list_any is_walk walks) || list_any walk_asks walks)
    stepped-asks [] = sym (ap (λ (t : Bool). t || false) (and-false (is_later step)))
    stepped-asks (walk ∷ walks) =
        ap (λ (t : Bool). (is_later step || walk_asks walk) || t) (stepped-asks walks)
        ∙ asks-more (is_later step) (walk_asks walk) (list_any is_walk walks) (list_any walk_asks walks)

    abbrev is_first : Bool
    is_first = mark_of first step.module_number

    abbrev gives : Bool
    gives = have_common step.class (codes_of allows codes step.module_number)

    stepped-leads : (walks : List PathValue) →
        list_any walk_leads (map (after_step step) walks) ≡ ((is_first && (gives && list_any walk_asks walks)) || list_any walk_leads walks)
    unfolding leads_steps
    stepped-leads [] = sym (leads-none is_first gives)
    stepped-leads (walk ∷ walks) =
        ap (λ (t : Bool). ((is_first && (gives && walk_asks walk)) || walk_leads walk) || t) (stepped-leads walks)
        ∙ leads-more is_first gives (walk_asks walk) (walk_leads walk) (list_any walk_asks walks) (list_any walk_leads walks)

  module _ (known : List (List PathValue)) (node : Node) where
    abbrev number : ℕ
    number = node.module_number

    abbrev step_on : Edge → StepValue
    step_on edge = record { module_number = number; class = edge.class }

    node-goes : list_any is_walk (walks_at known node) ≡ (node_onward allows first codes later (map onward_of known) node).goes_on
    node-goes =
        edges-any is_walk (edge_goes_on (map onward_of known)) known number
        (λ edge. stepped-goes (step_on edge) (walks_to known edge.target) ∙ ap (λ (o : Onward). o.goes_on) (target-onward known edge.target)) node.edges.items

    node-asks : list_any walk_asks (walks_at known node) ≡ (node_onward allows first codes later (map onward_of known) node).asks
    node-asks =
        edges-any walk_asks (edge_asks (map onward_of known) (mark_of later number)) known number
        (λ edge. stepped-asks (step_on edge) (walks_to known edge.target)
        ∙ ap (λ (o : Onward). (mark_of later number && o.goes_on) || o.asks) (target-onward known edge.target)) node.edges.items

    node-leads : list_any walk_leads (walks_at known node) ≡ (node_onward allows first codes later (map onward_of known) node).leads
    node-leads =
        edges-any walk_leads (edge_leads (map onward_of known) (mark_of first number) (codes_of allows codes number)) known number
        (λ edge. stepped-leads (step_on edge) (walks_to known edge.target)
        ∙ ap (λ (o : Onward). (mark_of first number && (have_common edge.class (codes_of allows codes number) && o.asks)) || o.leads)
        (target-onward known edge.target)) node.edges.items

    node-same : onward_of (walks_at known node) ≡ node_onward allows first codes later (map onward_of known) node
    node-same =
        same-onward (onward_of (walks_at known node)) (node_onward allows first codes later (map onward_of known) node) node-goes node-asks node-leads

  onwards-table : (nodes : List Node) → map onward_of (walks_of nodes) ≡ onwards allows first codes later nodes
  onwards-table nodes = table-map onward_of walks_at (node_onward allows first codes later) node-same [] nodes

  -- what is computed says whether some walk leads from a first module to a later one
  pub leads-walks : (nodes : List Node) (start : Target) →
      (onward_at (onwards allows first codes later nodes) start).leads ≡ list_any walk_leads (walks_to (walks_of nodes) start)
  leads-walks nodes start =
      sym (ap (λ (o : Onward). o.leads) (target-onward (walks_of nodes) start
      ∙ ap (λ (known : List Onward). onward_at known start) (onwards-table nodes)))
