-- The modules whose success counts have a node at which it does, and such a node is one of a module whose success counts.
use Rattle.std.proofs.Common.{◌≡◌, ℕ, ◌<◌, Bool, true, false, ◌||◌, List, [], ◌∷◌, refl, sym, ◌∙◌, ap, subst, inl, inr, arith}
use Rattle.std.proofs.Common.{get_or, length, map, slice_index_or, suc, zero}
use Rattle.std.proofs.lemmas.Bool.{and_from, and_parts, eq-eqb, eqb-true, false≢true, or_cases}
use Rattle.std.proofs.lemmas.List.Folds.{list_any-append}
use Rattle.std.proofs.Math.ListN.{get_or-map}
use Rattle.std.specs.List.{flat_map, list_any}
use Rattle.std.specs.Prelude.{◌==◌}
use Rattle.pam_codes.specs.Set.{is_in}
use Rattle.pam_conf.specs.Stack.{Items, module_count}
use Rattle.pam_dispatch.specs.declared.flat_item.FlatItem.{FlatItem}
use Rattle.pam_dispatch.specs.Flat.{modules_of, runs_of}
use Rattle.pam_dispatch.specs.Keys.{KeyValue, rest_at}
use Rattle.pam_dispatch.specs.Runs.{AsksRise, Runs}
use Rattle.pam_dispatch.specs.State.{start_state, success}
use Rattle.pam_dispatch.specs.Tree.{asked}
use Rattle.pam_graph.specs.declared.node.Edge.{Edge}
use Rattle.pam_graph.specs.declared.node.Node.{Node}
use Rattle.pam_graph.specs.declared.node.Target.{Target}
use Rattle.pam_graph.specs.declared.node.Target.TheVariants.{At, End}
use Rattle.pam_graph.specs.Order.{AreNodes}
use Rattle.pam_graph.specs.Places.{AreNodesAt, AreNodesOf, IsNodeAt}
use Rattle.pam_graph.specs.Walks.{walks_at, walks_by, walks_of, walks_to}
use Rattle.pam_graph.proofs.Counting.{table-map}
use Rattle.pam_graph.proofs.Sides.{walks-node}
use Rattle.pam_text.specs.Members.{Member}
use Rattle.pam_paths.specs.Classes.{class_of}
use Rattle.pam_paths.specs.Computed.{after_step}
use Rattle.pam_paths.specs.Listing.{Allowance, IsListing}
use Rattle.pam_paths.specs.Paths.{PathValue, StepValue, path_of, path_through, step_by}
use Rattle.pam_paths.proofs.Alike.{in_class}
use Rattle.pam_paths.proofs.Listings.{Member-left, Member-map, Member-right, with_answer, with_answer-at}
use Rattle.pam_paths.proofs.Sharing.{is_in-Member}
use Rattle.pam_paths.proofs.Trees.{path_of-stack}
use Rattle.pam_findings.specs.stack.Counting.{Counts}
use Rattle.pam_findings.specs.stack.inner.Counting.{SaysCounts, counts_at, leads_to_success, node_succeeds, reaches_success, some_counts, succeeding}
use Rattle.pam_findings.specs.stack.inner.Counting.{success_counts}
use Rattle.pam_findings.specs.stack.inner.Marks.{IsProgramOf}
use Rattle.pam_findings.proofs.StackProofs.Marking.{listing-of}
use Rattle.pam_findings.proofs.StackProofs.MarkLists.{or-false}
use Rattle.pam_findings.proofs.StackProofs.Reaching.{changed-allowed, key-reaches, key-rise, on-tree, same-path}
use Rattle.pam_findings.proofs.StackProofs.Walking.{walks-by}
use Rattle.pam_findings.proofs.StackProofs.WaysIn.{passing-any, path-decides, some-passing}

-- WHETHER SOME WALK DECIDES SUCCESS

abbrev succeeds : PathValue → Bool
succeeds walk = walk.decision == success

abbrev some_success : List PathValue → Bool
some_success walks = list_any succeeds walks

-- a first step decides nothing
stepped : (step : StepValue) (walks : List PathValue) → some_success (map (after_step step) walks) ≡ some_success walks
stepped step [] = refl
stepped step (walk ∷ walks) = ap (λ (t : Bool). succeeds walk || t) (stepped step walks)

target-success : (known : List (List PathValue)) (target : Target) →
    some_success (walks_to known target) ≡ reaches_success (map some_success known) target
target-success known (At index) = sym (get_or-map some_success known index [])
target-success known (End decision) = or-false (decision == success)

edges-success : (known : List (List PathValue)) (number : ℕ) (edges : List Edge) →
    some_success (flat_map (walks_by known number) edges) ≡ list_any (leads_to_success (map some_success known)) edges
edges-success known number [] = refl
edges-success known number (edge ∷ edges) =
    let first : StepValue = record { module_number = number; class = edge.class } in
    list_any-append succeeds (walks_by known number edge) (flat_map (walks_by known number) edges)
    ∙ ap (λ (t : Bool). t || some_success (flat_map (walks_by known number) edges))
    (stepped first (walks_to known edge.target) ∙ target-success known edge.target)
    ∙ ap (λ (t : Bool). leads_to_success (map some_success known) edge || t) (edges-success known number edges)

-- it is computed node by node
success-table : (nodes : List Node) → map some_success (walks_of nodes) ≡ succeeding nodes
success-table nodes =
    table-map some_success walks_at node_succeeds (λ known node. edges-success known node.module_number node.edges.items) [] nodes

target-reaches : (nodes : List Node) (target : Target) → some_success (walks_to (walks_of nodes) target) ≡ reaches_success (succeeding nodes) target
target-reaches nodes target =
    target-success (walks_of nodes) target ∙ ap (λ (known : List Bool). reaches_success known target) (success-table nodes)

-- A MODULE WHOSE SUCCESS COUNTS HAS A NODE at which it does
counts-has : (allows : Allowance) (items : Items) (nodes : List Node) (start : Target) (number : ℕ) →
    IsListing allows (module_count items) (path_through items) (walks_to (walks_of nodes) start) → Counts allows items number →
    some_counts (succeeding nodes) number nodes ≡ true
unfolding path_through
counts-has allows items nodes start number is counts =
    let a = counts.succeeds.asks in
    let known = succeeding nodes in
    let walk = path_through items a.answers in
    let member = (is.members walk).1 (a.answers, a.allowed, refl) in
    let step = Member-map (step_by a.answers) a.ask (asked items start_state start_state a.answers) a.is_asked in
    let by = walks-by nodes start walk member (step_by a.answers a.ask) step in
    let own : a.answers a.ask.module_number ≡ success = ap a.answers a.numbered ∙ counts.succeeds.answer in
    let among : is_in success (class_of a.ask success) ≡ true =
    is_in-Member (class_of a.ask success) success (in_class a.ask success success (omega arith) refl) in
    let class : is_in success by.edge.class ≡ true =
    subst (λ (c : List ℕ). is_in success c ≡ true) (ap (class_of a.ask) (sym own) ∙ by.class) among in
    let decides : by.rest.decision ≡ success = sym by.decides ∙ path-decides items a.answers ∙ counts.decides in
    let leads : leads_to_success known by.edge ≡ true =
    sym (target-reaches nodes by.edge.target)
    ∙ passing-any succeeds (walks_to (walks_of nodes) by.edge.target) by.rest by.goes_on (eq-eqb by.rest.decision success decides) in
    let edge = passing-any (success_counts known) by.node.edges.items by.edge by.edge_in (and_from (is_in success by.edge.class) _ class leads) in
    let numbered : number ≡ by.node.module_number = sym a.numbered ∙ by.number in
    passing-any (counts_at known number) nodes by.node by.node_in
    (and_from (number == by.node.module_number) _ (eq-eqb number by.node.module_number numbered) edge)

-- THE MODULE OF A NODE AT WHICH SUCCESS COUNTS is one whose success counts

-- an element that passes a test, with its index
some-at : {X : Type 0} (test : X → Bool) (xs : List X) → list_any test xs ≡ true →
    (x : X) × (i : ℕ) × (i < length xs) × (x ≡ get_or xs i x) × (test x ≡ true)
some-at test [] h = absurd (false≢true h)
some-at test (y ∷ ys) h =
    elim (or_cases (test y) (list_any test ys) h) [
      | inl t ↦ (y, 0, omega arith, refl, t)
      | inr k ↦ let again = some-at test ys k in (again.0, suc again.1, omega (arith, again.2), again.3, again.4)
    ]

Member-flat : (f : Edge → List PathValue) (edges : List Edge) (edge : Edge) (walk : PathValue) → Member edge edges → Member walk (f edge) →
    Member walk (flat_map f edges)
unfolding Member
Member-flat f [] edge walk h m = absurd h
Member-flat f (x ∷ edges) edge walk (inl e) m = Member-left walk (f x) (flat_map f edges) (subst (λ (y : Edge). Member walk (f y)) e m)
Member-flat f (x ∷ edges) edge walk (inr i) m = Member-right walk (f x) (flat_map f edges) (Member-flat f edges edge walk i m)

module _ (allows : Allowance) (program : List FlatItem) where
  node-at : (keys : List KeyValue) (nodes : List Node) (walks : List (List PathValue)) (i : ℕ) (node : Node) → AreNodesAt allows program keys nodes walks →
      i < length nodes → node ≡ get_or nodes i node → (key : KeyValue) × IsNodeAt allows program key node (slice_index_or walks i [])
  unfolding AreNodesAt
  node-at [] [] [] i node at l is = absurd (omega (arith, l))
  node-at [] [] (x ∷ walks) i node at l is = absurd at
  node-at [] (y ∷ nodes) walks i node at l is = absurd at
  node-at (key ∷ keys) [] walks i node at l is = absurd at
  node-at (key ∷ keys) (y ∷ nodes) [] i node at l is = absurd at
  node-at (key ∷ keys) (y ∷ nodes) (x ∷ walks) zero node at l is = (key, subst (λ (n : Node). IsNodeAt allows program key n x) (sym is) at.0)
  node-at (key ∷ keys) (y ∷ nodes) (x ∷ walks) (suc i) node at l is = node-at keys nodes walks i node at.1 (omega (arith, l)) is

module _ (allows : Allowance) (program : List FlatItem) (items : Items) (of : IsProgramOf program items)
    (rise : AsksRise 0 (modules_of program) (runs_of program)) (nodes : List Node) (order : AreNodes [] nodes)
    (at : AreNodesOf allows program nodes) where
  -- the walk by an edge at which success counts
  edge-counts : (key : KeyValue) (node : Node) (walks : List PathValue) (edge : Edge) (rest : PathValue) → IsNodeAt allows program key node walks →
      Member (after_step (record { module_number = node.module_number; class = edge.class }) rest) walks → is_in success edge.class ≡ true →
      rest.decision ≡ success → allows node.module_number success ≡ true → Counts allows items node.module_number
  edge-counts key node walks edge rest is member class decides may =
      let number = node.module_number in
      let first : StepValue = record { module_number = number; class = edge.class } in
      let run = rest_at program key in
      let taken = (is.listing.members (after_step first rest)).0 member in
      let above = key-rise allows program items of rise key is.reached in
      let answers = with_answer taken.0 number success in
      let same = same-path above.0 (modules_of program) run taken.0 number success first rest above.1 is.asked taken.2 class in
      let path : path_of run answers ≡ after_step first rest = same ∙ sym taken.2 in
      let allowed = changed-allowed allows (modules_of program) number success taken.0 taken.1 (omega arith) may in
      let r = key-reaches allows program items of rise key is.reached number success answers allowed (with_answer-at taken.0 number success) is.asked in
      record {
        succeeds = on-tree allows program items of rise number success _ r;
        decides = sym (path-decides items r.answers)
            ∙ ap (λ (p : PathValue). p.decision)
            (sym (ap (λ (runs : Runs). path_of runs r.answers) of.runs ∙ path_of-stack items r.answers))
            ∙ r.decides ∙ ap (λ (p : PathValue). p.decision) path ∙ decides;
      }

  node-counts : (number : ℕ) → some_counts (succeeding nodes) number nodes ≡ true → allows number success ≡ true → Counts allows items number
  node-counts number some may =
      let known = walks_of nodes in
      let found = some-at (counts_at (succeeding nodes) number) nodes some in
      let node = found.0 in
      let parts = and_parts (number == node.module_number) (list_any (success_counts (succeeding nodes)) node.edges.items) found.4 in
      let same : number ≡ node.module_number = eqb-true number node.module_number parts.0 in
      let by = some-passing (success_counts (succeeding nodes)) node.edges.items parts.1 in
      let edge = by.0 in
      let both = and_parts (is_in success edge.class) (leads_to_success (succeeding nodes) edge) by.2 in
      let onward = some-passing succeeds (walks_to known edge.target) (target-reaches nodes edge.target ∙ both.1) in
      let first : StepValue = record { module_number = node.module_number; class = edge.class } in
      let begins = Member-map (after_step first) onward.0 (walks_to known edge.target) onward.1 in
      let member = Member-flat (walks_by known node.module_number) node.edges.items edge (after_step first onward.0) by.1 begins in
      let here = node-at allows program at.0 nodes known found.1 node at.2 found.2 found.3 in
      let whole = walks-node nodes order found.1 node found.2 found.3 in
      subst (Counts allows items) (sym same)
      (edge-counts here.0 node (slice_index_or known found.1 []) edge onward.0 here.1
      (subst (Member (after_step first onward.0)) (sym whole) member) both.0 (eqb-true onward.0.decision success onward.2)
      (subst (λ (n : ℕ). allows n success ≡ true) same may))

  -- what a mark says
  pub says-counts : (start : Target) (number : ℕ) (t : Bool) → IsListing allows (modules_of program) (path_through items) (walks_to (walks_of nodes) start) →
      t ≡ some_counts (succeeding nodes) number nodes → allows number success ≡ true → SaysCounts allows items number t
  says-counts start number true is e may = node-counts number (sym e) may
  says-counts start number false is e may =
      λ counts. false≢true (e ∙ counts-has allows items nodes start number (listing-of allows program items of nodes start is) counts)
