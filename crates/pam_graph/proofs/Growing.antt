-- Graphs to which nodes are added.
use Rattle.std.proofs.Common.{◌≡◌, ℕ, ◌+◌, ◌-◌, ◌<◌, ◌≤◌, List, [], ◌∷◌, ◌++◌, map, refl, sym}
use Rattle.std.proofs.Common.{◌∙◌, ap, subst, arith, append_assoc, append-nil, length, slice_index_or, Result, Ok, Err, None, Some}
use Rattle.std.specs.Prelude.{IfOk, OnOk}
use Rattle.std.proofs.lemmas.List.{flat_map_more, length-append, length-map, map-append, get_or-map}
use Rattle.std.proofs.Math.ListN.{get_or-append}
use Rattle.std.proofs.Math.Seq.{get_or-append_seam}
use Rattle.std.specs.List.{flat_map}
use Rattle.pam_dispatch.specs.declared.flat_item.FlatItem.{FlatItem}
use Rattle.pam_dispatch.specs.declared.state.State.{State}
use Rattle.pam_dispatch.specs.Decision.{decision_of}
use Rattle.pam_dispatch.specs.Flat.{modules_of, rest_of}
use Rattle.pam_dispatch.specs.Keys.{KeyValue, rest_at}
use Rattle.pam_dispatch.specs.Runs.{AsksRise, Runs, asked_module, asks, ends, state_in}
use Rattle.pam_graph.specs.declared.error.GraphError.{GraphError}
use Rattle.pam_graph.specs.declared.node.Edge.{Edge}
use Rattle.pam_graph.specs.declared.node.Node.{Node}
use Rattle.pam_graph.specs.declared.node.Target.{Target}
use Rattle.pam_graph.specs.declared.node.Target.TheVariants.{At, End}
use Rattle.pam_graph.specs.inner.Building.{AreAsking, IsAsking, IsBuilt, IsExtended, IsNodeFor, modules_left, next_number, state_of, states_of}
use Rattle.pam_graph.specs.Order.{AreAbove, AreNodes, IsAbove, IsNode, LeastRise, number_of, numbers_of}
use Rattle.pam_graph.specs.Walks.{table, walks_at, walks_by, walks_of, walks_to}
use Rattle.pam_graph.proofs.Tables.{edges-added, length-walks_of, table-push}
use Rattle.pam_graph.proofs.Withins.{AreAbove-within}
use Rattle.pam_paths.specs.declared.fork.Choice.{Choice}
use Rattle.pam_paths.specs.declared.fork.Fork.{Fork}
use Rattle.pam_paths.specs.Classes.{least}
use Rattle.pam_paths.specs.Computed.{after_step, listing}
use Rattle.pam_paths.specs.Forks.{paths_by, paths_from}
use Rattle.pam_paths.specs.Listing.{Allowance}
use Rattle.pam_paths.specs.Paths.{PathValue}

-- TARGETS

-- a target stays above a number when nodes are added
pub IsAbove-more : (few more : List ℕ) (low : ℕ) (t : Target) → IsAbove few low t → IsAbove (few ++ more) low t
IsAbove-more few more low (At index) h =
    let long = length-append few more in
    (omega (arith, long, h.0), subst (λ (n : ℕ). low < n) (sym (get_or-append few more 0 index h.0)) h.1)
IsAbove-more few more low (End d) h = tt

pub AreAbove-more : (few more : List ℕ) (low : ℕ) (edges : List Edge) → AreAbove few low edges → AreAbove (few ++ more) low edges
unfolding AreAbove
AreAbove-more few more low [] h = tt
AreAbove-more few more low (edge ∷ edges) h = (IsAbove-more few more low edge.target h.0, AreAbove-more few more low edges h.1)

pub AreAbove-push : (numbers : List ℕ) (low : ℕ) (edges : List Edge) (edge : Edge) → AreAbove numbers low edges → IsAbove numbers low edge.target →
    AreAbove numbers low (edges ++ edge ∷ [])
unfolding AreAbove
AreAbove-push numbers low [] edge h k = (k, tt)
AreAbove-push numbers low (e ∷ edges) edge h k = (h.0, AreAbove-push numbers low edges edge h.1 k)

pub LeastRise-push : (low high : ℕ) (edges : List Edge) (edge : Edge) → LeastRise low high edges → high ≤ least edge.class →
    LeastRise low (least edge.class + 1) (edges ++ edge ∷ [])
unfolding LeastRise
LeastRise-push low high [] edge h k = (omega (arith, h, k), omega arith)
LeastRise-push low high (e ∷ edges) edge h k = (h.0, LeastRise-push (least e.class + 1) high edges edge h.1 k)

pub LeastRise-more : (low high most : ℕ) (edges : List Edge) → LeastRise low high edges → high ≤ most → LeastRise low most edges
unfolding LeastRise
LeastRise-more low high most [] h k = omega (arith, h, k)
LeastRise-more low high most (e ∷ edges) h k = (h.0, LeastRise-more (least e.class + 1) high most edges h.1 k)

pub AreNodes-push : (before : List ℕ) (nodes : List Node) (node : Node) → AreNodes before nodes → IsNode (before ++ numbers_of nodes) node →
    AreNodes before (nodes ++ node ∷ [])
unfolding AreNodes
AreNodes-push before [] node h k = (subst (λ (x : List ℕ). IsNode x node) (append-nil before) k, tt)
AreNodes-push before (x ∷ nodes) node h k = (
  h.0,
  AreNodes-push (before ++ x.module_number ∷ []) nodes node h.1
      (subst (λ (y : List ℕ). IsNode y node) (sym (append_assoc before (x.module_number ∷ []) (numbers_of nodes))) k),
)

AreAsking-push : (n : ℕ) (all : List Runs) (r : Runs) → AreAsking n all → IsAsking n r → AreAsking n (all ++ r ∷ [])
unfolding AreAsking
AreAsking-push n [] r h k = (k, tt)
AreAsking-push n (x ∷ all) r h k = (h.0, AreAsking-push n all r h.1 k)

-- ADDED NODES

pub extended-length : (old new : List Node) → IsExtended old new → length old ≤ length new
extended-length old new h = let k = ap length h.1 ∙ length-append old h.0 in omega (arith, k)

pub extended-trans : {A : Type 0} (one two three : List A) → IsExtended one two → IsExtended two three → IsExtended one three
extended-trans {A} one two three h k =
    (h.0 ++ k.0, k.1 ∙ ap (λ (x : List A). x ++ k.0) h.1 ∙ append_assoc one h.0 k.0)

pub numbers-extended : (old new : List Node) → IsExtended old new → (more : List ℕ) × (numbers_of new ≡ numbers_of old ++ more)
numbers-extended old new h = (numbers_of h.0, ap numbers_of h.1 ∙ map-append number_of old h.0)

-- edges stay above a number when nodes are added
pub above-extended : (old new : List Node) (low : ℕ) (edges : List Edge) → IsExtended old new → AreAbove (numbers_of old) low edges →
    AreAbove (numbers_of new) low edges
above-extended old new low edges h k =
    let e = numbers-extended old new h in
    subst (λ (x : List ℕ). AreAbove x low edges) (sym e.1) (AreAbove-more (numbers_of old) e.0 low edges k)

pub edges-extended : (old new : List Node) (number low : ℕ) (edges : List Edge) → IsExtended old new → AreAbove (numbers_of old) low edges →
    flat_map (walks_by (walks_of new) number) edges ≡ flat_map (walks_by (walks_of old) number) edges
edges-extended old new number low edges h k =
    ap (λ (x : List Node). flat_map (walks_by (walks_of x) number) edges) h.1
    ∙ edges-added old h.0 number edges (AreAbove-within old low edges k)

-- the number of the module asked next is above that of one asked before
pub number-above : (low n m : ℕ) (r : Runs) → asked_module r ≡ Some m → AsksRise low n r → low < next_number r
unfolding AsksRise
number-above low n m (ends s) asked h = absurd (let k : ⊥ = cc in k)
number-above low n m (asks ask next) asked h = h.0

pub number-is : (m : ℕ) (r : Runs) → asked_module r ≡ Some m → m ≡ next_number r
number-is m (ends s) e = absurd (let k : ⊥ = cc in k)
number-is m (asks ask next) e = let is : ask.module_number ≡ m = cc in sym is

-- the node of a module that a run asks
pub node-for : (n m : ℕ) (r : Runs) (node : Node) → asked_module r ≡ Some m → AsksRise 0 n r → node.module_number ≡ m → node.state ≡ state_in r →
    IsNodeFor n r node
node-for n m r node asked rise number state =
    let is = number-is m r asked in
    record { number = number ∙ is; state = state; asking = record { asked = asked ∙ ap Some is; rise = rise } }

-- THE MEASURE

-- after a choice of a module fewer modules are left
pub left-fewer : (m n : ℕ) (r : Runs) → AsksRise m n r → m ≤ n → modules_left n r < n + 1 - m
unfolding AsksRise
left-fewer m n (ends s) h l = omega arith
left-fewer m n (asks ask next) h l = omega (arith, h.0, h.1)

pub left-at : (m n : ℕ) (r : Runs) → asked_module r ≡ Some m → modules_left n r ≡ n + 1 - m
left-at m n (ends s) e = absurd (let k : ⊥ = cc in k)
left-at m n (asks ask next) e = let is : ask.module_number ≡ m = cc in ap (λ (x : ℕ). n + 1 - x) is

-- the listing of a run that has ended
pub listing-end : (allows : Allowance) (r : Runs) (code : ℕ) → asked_module r ≡ None → code ≡ decision_of (state_in r) →
    record { steps = []; decision = code } ∷ [] ≡ listing allows r
unfolding listing
listing-end allows (ends s) code e is = ap (λ (n : ℕ). path n ∷ []) is
  where
    path : ℕ → PathValue
    path n = record { steps = []; decision = n }
listing-end allows (asks ask next) code e is = absurd (let k : ⊥ = cc in k)

-- BUILT GRAPHS

module _ (allows : Allowance) (program : List FlatItem) where
  abbrev paths_at : List KeyValue → List (List PathValue)
  paths_at places = map (listing allows) (map (rest_at program) places)

  -- as many places as nodes
  pub built-length : (nodes : List Node) (places : List KeyValue) → IsBuilt allows program nodes places → length nodes ≡ length places
  built-length nodes places built =
      sym (length-walks_of nodes) ∙ ap length built.walks
      ∙ length-map (map (rest_at program) places) (listing allows) ∙ length-map places (rest_at program)

  -- the walks from a node that is found
  pub built-found : (nodes : List Node) (places : List KeyValue) (index : ℕ) (other : KeyValue) (r : Runs) → IsBuilt allows program nodes places →
      index < length places → rest_at program (slice_index_or places index other) ≡ r → walks_to (walks_of nodes) (At index) ≡ listing allows r
  built-found nodes places index other r built l is =
      ap (λ (x : List (List PathValue)). slice_index_or x index []) built.walks
      ∙ get_or-map (listing allows) (map (rest_at program) places) index (rest_at program other) []
      (subst (λ n. index < n) (sym (length-map places (rest_at program))) l)
      ∙ ap (listing allows) (get_or-map (rest_at program) places index other (rest_at program other) l ∙ is)

  -- the number of the module of a node that is found
  pub number-found : (nodes : List Node) (places : List KeyValue) (index : ℕ) (other : KeyValue) (r : Runs) → IsBuilt allows program nodes places →
      index < length places → rest_at program (slice_index_or places index other) ≡ r → slice_index_or (numbers_of nodes) index 0 ≡ next_number r
  number-found nodes places index other r built l is =
      ap (λ (x : List ℕ). slice_index_or x index 0) built.numbers
      ∙ get_or-map next_number (map (rest_at program) places) index (rest_at program other) 0
      (subst (λ n. index < n) (sym (length-map places (rest_at program))) l)
      ∙ ap next_number (get_or-map (rest_at program) places index other (rest_at program other) l ∙ is)

  pub found-above : (nodes : List Node) (places : List KeyValue) (index low n m : ℕ) (other : KeyValue) (r : Runs) → IsBuilt allows program nodes places →
      index < length places → rest_at program (slice_index_or places index other) ≡ r → asked_module r ≡ Some m → AsksRise low n r →
      IsAbove (numbers_of nodes) low (At index)
  found-above nodes places index low n m other r built l is asked rise =
      let long = length-map nodes number_of in
      let same = built-length nodes places built in
      (omega (arith, long, same, l), subst (λ (x : ℕ). low < x) (sym (number-found nodes places index other r built l is)) (number-above low n m r asked rise))

  -- a node is added
  pub built-push : (old new : List Node) (places after : List KeyValue) (node : Node) (r : Runs) → IsBuilt allows program old places →
      new ≡ old ++ node ∷ [] → map (rest_at program) after ≡ map (rest_at program) places ++ r ∷ [] → IsNode (numbers_of old) node →
      IsNodeFor (modules_of program) r node → walks_at (walks_of old) node ≡ listing allows r → IsBuilt allows program new after
  built-push old new places after node r built is at valid here same = record {
    walks = ap walks_of is ∙ table-push walks_at [] old node
        ∙ ap (λ (x : List PathValue). walks_of old ++ x ∷ []) same
        ∙ ap (λ (x : List (List PathValue)). x ++ listing allows r ∷ []) built.walks
        ∙ sym (map-append (listing allows) (map (rest_at program) places) (r ∷ []))
        ∙ sym (ap (map (listing allows)) at);
    numbers = ap numbers_of is ∙ map-append number_of old (node ∷ [])
        ∙ ap (λ (x : ℕ). numbers_of old ++ x ∷ []) here.number
        ∙ ap (λ (x : List ℕ). x ++ next_number r ∷ []) built.numbers
        ∙ sym (map-append next_number (map (rest_at program) places) (r ∷ []))
        ∙ sym (ap (map next_number) at);
    states = ap states_of is ∙ map-append state_of old (node ∷ [])
        ∙ ap (λ (x : State). states_of old ++ x ∷ []) here.state
        ∙ ap (λ (x : List State). x ++ state_in r ∷ []) built.states
        ∙ sym (map-append state_in (map (rest_at program) places) (r ∷ []))
        ∙ sym (ap (map state_in) at);
    asking = subst (AreAsking (modules_of program)) (sym at)
        (AreAsking-push (modules_of program) (map (rest_at program) places) r built.asking here.asking);
    order = subst (AreNodes []) (sym is) (AreNodes-push [] old node built.order valid);
  }

  -- the walks from a node that was added
  pub walks-last : (old new : List Node) (node : Node) (r : Runs) → new ≡ old ++ node ∷ [] → walks_at (walks_of old) node ≡ listing allows r →
      walks_to (walks_of new) (At (length old)) ≡ listing allows r
  walks-last old new node r is same =
      ap (λ (x : List Node). walks_to (walks_of x) (At (length old))) is
      ∙ ap (λ (x : List (List PathValue)). slice_index_or x (length old) []) (table-push walks_at [] old node)
      ∙ ap (λ (n : ℕ). slice_index_or (walks_of old ++ walks_at (walks_of old) node ∷ []) n []) (sym (length-walks_of old))
      ∙ get_or-append_seam (walks_of old) (walks_at (walks_of old) node) [] []
      ∙ same

  -- an edge is added for a choice
  pub walks-choice : (fork : Fork) (bound number : ℕ) (old new : List Node) (edges : List Edge) (choice : Choice) (target : Target) (all : List PathValue) →
      IsExtended old new → AreAbove (numbers_of old) number edges → fork.module_number ≡ number →
      paths_from allows program fork bound ≡ paths_by allows program fork.module_number choice ++ paths_from allows program fork choice.next →
      walks_to (walks_of new) target ≡ listing allows (rest_of program choice.place) →
      flat_map (walks_by (walks_of old) number) edges ++ paths_from allows program fork bound ≡ all →
      flat_map (walks_by (walks_of new) number)
      (edges ++ record { class = choice.class; target = target } ∷ []) ++ paths_from allows program fork choice.next ≡ all
  walks-choice fork bound number old new edges choice target all ext within numbered paths walks is =
      let edge : Edge = record { class = choice.class; target = target } in
      let after : List PathValue = paths_from allows program fork choice.next in
      let now = walks_by (walks_of new) number in
      let before : List PathValue = flat_map (walks_by (walks_of old) number) edges in
      let step : ℕ → PathValue → PathValue = λ n. after_step (record { module_number = n; class = choice.class }) in
      ap (λ (x : List PathValue). x ++ after) (sym (flat_map_more now [] edges edge))
      ∙ append_assoc (flat_map now edges) (now edge) after
      ∙ ap (λ (x : List PathValue). x ++ (now edge ++ after)) (edges-extended old new number number edges ext within)
      ∙ ap (λ (x : List PathValue). before ++ (map (step number) x ++ after)) walks
      ∙ ap (λ (n : ℕ). before ++ (map (step n) (listing allows (rest_of program choice.place)) ++ after)) (sym numbered)
      ∙ ap (λ (x : List PathValue). before ++ x) (sym paths)
      ∙ is

  -- all edges are there
  pub walks-all : (fork : Fork) (bound : ℕ) (node : Node) (nodes : List Node) (all : List PathValue) → paths_from allows program fork bound ≡ [] →
      flat_map (walks_by (walks_of nodes) node.module_number) node.edges.items ++ paths_from allows program fork bound ≡ all →
      walks_at (walks_of nodes) node ≡ all
  walks-all fork bound node nodes all none is =
      let edges : List PathValue = walks_at (walks_of nodes) node in
      sym (append-nil edges) ∙ ap (λ (x : List PathValue). edges ++ x) (sym none) ∙ is

  -- a graph without nodes
  pub built-empty : (nodes : List Node) (places : List KeyValue) → nodes ≡ [] → places ≡ [] → IsBuilt allows program nodes places
  unfolding table AreAsking AreNodes
  built-empty nodes places e f =
      subst (λ (x : List Node). IsBuilt allows program x places) (sym e)
      (subst (λ (x : List KeyValue). IsBuilt allows program [] x) (sym f)
      (record { walks = refl; numbers = refl; states = refl; asking = tt; order = tt }))

  -- what is added to a graph keeps it built
  pub added-built : (old new : List Node) (places after : List KeyValue) (node : Node) (r : Runs) (result : Result Target GraphError) →
      IsBuilt allows program old places → IsNode (numbers_of old) node → IsNodeFor (modules_of program) r node →
      walks_at (walks_of old) node ≡ listing allows r →
      OnOk result (new ≡ old ++ node ∷ []) → OnOk result (map (rest_at program) after ≡ map (rest_at program) places ++ r ∷ []) →
      OnOk result (IsBuilt allows program new after)
  added-built old new places after node r (Ok target) built valid here same is at = built-push old new places after node r built is at valid here same
  added-built old new places after node r (Err e) built valid here same is at = tt

  pub added-walks : (old new : List Node) (node : Node) (r : Runs) (result : Result Target GraphError) → walks_at (walks_of old) node ≡ listing allows r →
      OnOk result (new ≡ old ++ node ∷ []) → IfOk result (λ target. target ≡ At (length old)) →
      IfOk result (λ target. walks_to (walks_of new) target ≡ listing allows r)
  added-walks old new node r (Ok target) same is at = ap (walks_to (walks_of new)) at ∙ walks-last old new node r is same
  added-walks old new node r (Err e) same is at = tt

-- a node that was added has the number of its module
pub added-above : (old new : List Node) (node : Node) (low : ℕ) (result : Result Target GraphError) → low < node.module_number →
    OnOk result (new ≡ old ++ node ∷ []) → IfOk result (λ target. target ≡ At (length old)) → IfOk result (IsAbove (numbers_of new) low)
added-above old new node low (Ok target) l is at =
    subst (IsAbove (numbers_of new) low) (sym at)
    (subst (λ (x : List Node). IsAbove (numbers_of x) low (At (length old))) (sym is)
    (let long = length-map (old ++ node ∷ []) number_of in
    let more = length-append old (node ∷ []) in
    (omega (arith, long, more), subst (λ (n : ℕ). low < n) (sym (last-number old node)) l)))
  where
    last-number : (old : List Node) (node : Node) → slice_index_or (numbers_of (old ++ node ∷ [])) (length old) 0 ≡ node.module_number
    last-number old node =
        ap (λ (x : List ℕ). slice_index_or x (length old) 0) (map-append number_of old (node ∷ []))
        ∙ ap (λ (n : ℕ). slice_index_or (numbers_of old ++ node.module_number ∷ []) n 0) (sym (length-map old number_of))
        ∙ get_or-append_seam (numbers_of old) node.module_number [] 0
added-above old new node low (Err e) l is at = tt

pub added-extended : {A : Type 0} (old new all : List A) (one : A) (result : Result Target GraphError) → IsExtended all old →
    OnOk result (new ≡ old ++ one ∷ []) → OnOk result (IsExtended all new)
added-extended old new all one (Ok target) h is = extended-trans all old new h (one ∷ [], is)
added-extended old new all one (Err e) h is = tt
