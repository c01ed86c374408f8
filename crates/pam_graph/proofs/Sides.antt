-- Edges and walks in the order of a direction.
use Rattle.std.proofs.Common.{◌≡◌, ℕ, ◌+◌, ◌-◌, ◌<◌, Bool, true, false, ◌||◌, List, [], ◌∷◌, ◌++◌, map, reverse, cond, refl, sym, ◌∙◌, ap, subst, arith}
use Rattle.std.proofs.Common.{append_assoc, append-nil, drop, filter, length, slice_index_or, take, zero, suc}
use Rattle.std.proofs.lemmas.List.{drop_more, get_or-reverse, length-map}
use Rattle.std.proofs.lemmas.List.{length-reverse, length-take-le, map-append, reverse-append, take-append-drop}
use Rattle.std.proofs.lemmas.List.Elements.{filter-append}
use Rattle.std.proofs.Math.ListN.{get_or-map}
use Rattle.std.proofs.Math.Seq.{get_or-append_seam}
use Rattle.std.specs.List.{flat_map}
use Rattle.pam_graph.specs.declared.direction.Direction.{Direction}
use Rattle.pam_graph.specs.declared.direction.Direction.TheVariants.{Forward, Backward}
use Rattle.pam_graph.specs.declared.goal.Goal.{Goal}
use Rattle.pam_graph.specs.declared.node.Edge.{Edge}
use Rattle.pam_graph.specs.declared.node.Node.{Node}
use Rattle.pam_graph.specs.declared.node.Target.{Target}
use Rattle.pam_graph.specs.declared.node.Target.TheVariants.{At, End}
use Rattle.pam_graph.specs.declared.tally.Tally.{Tally}
use Rattle.pam_graph.specs.Frames.{edges_in, known_in, ordered, wanted_by}
use Rattle.pam_graph.specs.Goals.{fit}
use Rattle.pam_graph.specs.Order.{AreAbove, AreNodes, IsAbove, IsNode, number_of, numbers_of}
use Rattle.pam_graph.specs.Tallies.{wanted, wanted_of}
use Rattle.pam_graph.specs.inner.Tallies.{met_by, number, step_by, tallies_of, tally_of}
use Rattle.pam_graph.specs.Walks.{table, walks_at, walks_by, walks_of, walks_to}
use Rattle.pam_graph.specs.inner.Within.{AreWithin, IsWithin, height}
use Rattle.pam_graph.proofs.Counting.{wanted-stepped}
use Rattle.pam_graph.proofs.Growing.{AreAbove-more}
use Rattle.pam_graph.proofs.Remaining.{item-left}
use Rattle.pam_graph.proofs.Tables.{edges-added, length-walks_of, table-append, table-begins}
use Rattle.pam_graph.proofs.Withins.{AreAbove-within}
use Rattle.pam_paths.specs.Computed.{after_step}
use Rattle.pam_paths.specs.Paths.{PathValue, StepValue}
use Rattle.pam_paths.proofs.Branches.{map-reverse}

-- REVERSED LISTS

pub filter-reverse : (p : PathValue → Bool) (xs : List PathValue) → filter p (reverse xs) ≡ reverse (filter p xs)
filter-reverse p [] = refl
filter-reverse p (x ∷ xs) =
    ap (filter p) (reverse-append (x ∷ []) xs)
    ∙ filter-append p (reverse xs) (x ∷ [])
    ∙ ap (λ (ys : List PathValue). ys ++ filter p (x ∷ [])) (filter-reverse p xs)
    ∙ (elim (p x) as (λ (t : Bool). reverse (filter p xs) ++ cond t (x ∷ []) [] ≡ reverse (cond t (x ∷ filter p xs) (filter p xs))) [
      | true ↦ sym (reverse-append (x ∷ []) (filter p xs))
      | false ↦ append-nil (reverse (filter p xs))
    ])

flat-append : (f : Edge → List PathValue) (xs ys : List Edge) → flat_map f (xs ++ ys) ≡ flat_map f xs ++ flat_map f ys
flat-append f [] ys = refl
flat-append f (x ∷ xs) ys = ap (λ (z : List PathValue). f x ++ z) (flat-append f xs ys) ∙ sym (append_assoc (f x) (flat_map f xs) (flat_map f ys))

flat-same : (f g : Edge → List PathValue) → ((e : Edge) → f e ≡ g e) → (es : List Edge) → flat_map f es ≡ flat_map g es
flat-same f g h [] = refl
flat-same f g h (e ∷ es) = ap (λ (x : List PathValue). x ++ flat_map f es) (h e) ∙ ap (λ (x : List PathValue). g e ++ x) (flat-same f g h es)

flat-reverse : (f : Edge → List PathValue) (es : List Edge) → reverse (flat_map f es) ≡ flat_map (λ e. reverse (f e)) (reverse es)
flat-reverse f [] = refl
flat-reverse f (e ∷ es) =
    reverse-append (f e) (flat_map f es)
    ∙ ap (λ (x : List PathValue). x ++ reverse (f e)) (flat-reverse f es)
    ∙ ap (λ (x : List PathValue). flat_map (λ k. reverse (f k)) (reverse es) ++ x) (sym (append-nil (reverse (f e))))
    ∙ sym (flat-append (λ k. reverse (f k)) (reverse es) (e ∷ []))
    ∙ ap (flat_map (λ k. reverse (f k))) (sym (reverse-append (e ∷ []) es))

-- EDGES

pub length-in : (d : Direction) (es : List Edge) → length (edges_in d es) ≡ length es
length-in Forward es = refl
length-in Backward es = length-reverse es

pub drop-in : (d : Direction) (es : List Edge) (i : ℕ) (e : Edge) → i < length es → e ≡ slice_index_or (edges_in d es) i e →
    drop i (edges_in d es) ≡ e ∷ drop (i + 1) (edges_in d es)
drop-in d es i e l is =
    item-left (edges_in d es) i e (omega (arith, l, length-in d es)) is

above-at : (numbers : List ℕ) (low : ℕ) (es : List Edge) (i : ℕ) (e : Edge) → AreAbove numbers low es → i < length es →
    IsAbove numbers low (slice_index_or es i e).target
unfolding AreAbove
above-at numbers low [] i e h l = absurd (omega arith)
above-at numbers low (x ∷ es) zero e h l = h.0
above-at numbers low (x ∷ es) (suc i) e h l = above-at numbers low es i e h.1 (omega (arith, l))

pub above-in : (d : Direction) (numbers : List ℕ) (low : ℕ) (es : List Edge) (i : ℕ) (e : Edge) → AreAbove numbers low es → i < length es →
    e ≡ slice_index_or (edges_in d es) i e → IsAbove numbers low e.target
above-in Forward numbers low es i e h l is =
    subst (λ (x : Edge). IsAbove numbers low x.target) (sym is) (above-at numbers low es i e h l)
above-in Backward numbers low es i e h l is =
    subst (λ (x : Edge). IsAbove numbers low x.target) (sym (is ∙ get_or-reverse es i e l)) (above-at numbers low es (length es - 1 - i) e h (omega (arith, l)))

within-at : (n : ℕ) (es : List Edge) (i : ℕ) (e : Edge) → AreWithin n es → i < length es → IsWithin n (slice_index_or es i e).target
unfolding AreWithin
within-at n [] i e h l = absurd (omega arith)
within-at n (x ∷ es) zero e h l = h.0
within-at n (x ∷ es) (suc i) e h l = within-at n es i e h.1 (omega (arith, l))

pub within-in : (d : Direction) (n : ℕ) (es : List Edge) (i : ℕ) (e : Edge) → AreWithin n es → i < length es →
    e ≡ slice_index_or (edges_in d es) i e → IsWithin n e.target
within-in Forward n es i e h l is = subst (λ (x : Edge). IsWithin n x.target) (sym is) (within-at n es i e h l)
within-in Backward n es i e h l is =
    subst (λ (x : Edge). IsWithin n x.target) (sym (is ∙ get_or-reverse es i e l)) (within-at n es (length es - 1 - i) e h (omega (arith, l)))

-- THE WALKS FROM A NODE ARE THOSE OF ITS EDGES

ordered-nil : (d : Direction) → ordered d [] ≡ []
ordered-nil Forward = refl
ordered-nil Backward = refl

pub known-at : (d : Direction) (nodes : List Node) (t : Target) → walks_to (known_in d nodes) t ≡ ordered d (walks_to (walks_of nodes) t)
known-at d nodes (At index) =
    ap (slice_index_or (known_in d nodes) index) (sym (ordered-nil d)) ∙ get_or-map (ordered d) (walks_of nodes) index []
known-at Forward nodes (End decision) = refl
known-at Backward nodes (End decision) = refl

stepped-in : (d : Direction) (step : StepValue) (walks : List PathValue) → map (after_step step) (ordered d walks) ≡ ordered d (map (after_step step) walks)
stepped-in Forward step walks = refl
stepped-in Backward step walks = map-reverse (after_step step) walks

by-in : (d : Direction) (nodes : List Node) (number : ℕ) (e : Edge) → walks_by (known_in d nodes) number e ≡ ordered d (walks_by (walks_of nodes) number e)
by-in d nodes number e =
    ap (map (after_step (record { module_number = number; class = e.class }))) (known-at d nodes e.target)
    ∙ stepped-in d (record { module_number = number; class = e.class }) (walks_to (walks_of nodes) e.target)

flat-in : (d : Direction) (f : Edge → List PathValue) (es : List Edge) → ordered d (flat_map f es) ≡ flat_map (λ e. ordered d (f e)) (edges_in d es)
flat-in Forward f es = refl
flat-in Backward f es = flat-reverse f es

walks-seam : (old more : List Node) (node : Node) → AreWithin (length old) node.edges.items →
    slice_index_or (walks_of (old ++ node ∷ more)) (length old) [] ≡ walks_at (walks_of (old ++ node ∷ more)) node
unfolding table
walks-seam old more node h =
    let begins = table-begins walks_at (walks_of old ++ walks_at (walks_of old) node ∷ []) more in
    ap (λ (x : List (List PathValue)). slice_index_or x (length old) [])
    (table-append walks_at [] old (node ∷ more) ∙ begins.1 ∙ append_assoc (walks_of old) (walks_at (walks_of old) node ∷ []) begins.0)
    ∙ ap (λ (n : ℕ). slice_index_or (walks_of old ++ walks_at (walks_of old) node ∷ begins.0) n []) (sym (length-walks_of old))
    ∙ get_or-append_seam (walks_of old) (walks_at (walks_of old) node) begins.0 []
    ∙ sym (edges-added old (node ∷ more) node.module_number node.edges.items h)

node-at : (before : List ℕ) (nodes : List Node) (i : ℕ) (d : Node) → AreNodes before nodes → i < length nodes →
    IsNode (before ++ numbers_of (take i nodes)) (slice_index_or nodes i d)
unfolding AreNodes
node-at before [] i d h l = absurd (omega arith)
node-at before (node ∷ nodes) zero d h l = subst (λ (x : List ℕ). IsNode x node) (sym (append-nil before)) h.0
node-at before (node ∷ nodes) (suc i) d h l =
    subst (λ (x : List ℕ). IsNode x (slice_index_or nodes i d)) (append_assoc before (node.module_number ∷ []) (numbers_of (take i nodes)))
    (node-at (before ++ node.module_number ∷ []) nodes i d h.1 (omega (arith, l)))

module _ (nodes : List Node) (order : AreNodes [] nodes) (i : ℕ) (node : Node) (l : i < length nodes) (is : node ≡ slice_index_or nodes i node) where
  parts : take i nodes ++ node ∷ drop (i + 1) nodes ≡ nodes
  parts =
      ap (λ (x : Node). take i nodes ++ x ∷ drop (i + 1) nodes) is
      ∙ ap (λ (x : List Node). take i nodes ++ x) (sym (drop_more nodes i node l)) ∙ take-append-drop i nodes

  pub valid : IsNode (numbers_of (take i nodes)) node
  valid = subst (λ (x : Node). IsNode (numbers_of (take i nodes)) x) (sym is) (node-at [] nodes i node order l)

  -- a node of a graph
  pub node-valid : IsNode (numbers_of nodes) node
  node-valid = record {
    first = valid.first;
    last = valid.last;
    later = subst (λ (x : List ℕ). AreAbove x node.module_number node.edges.items)
        (sym (map-append number_of (take i nodes) (node ∷ drop (i + 1) nodes)) ∙ ap numbers_of parts)
        (AreAbove-more (numbers_of (take i nodes)) (numbers_of (node ∷ drop (i + 1) nodes)) node.module_number node.edges.items valid.later);
    rise = valid.rise;
  }

  pub node-within : (tallies : List Tally) (goal : Goal) → tallies ≡ tallies_of goal nodes → AreWithin (length tallies) node.edges.items
  node-within tallies goal same =
      subst (λ (n : ℕ). AreWithin n node.edges.items) (sym (ap length same ∙ length-map (walks_of nodes) (tally_of goal) ∙ length-walks_of nodes))
      (AreAbove-within nodes node.module_number node.edges.items node-valid.later)

  -- its edges lead to nodes before it
  pub node-lower : (e : Target) → ((numbers : List ℕ) (low : ℕ) → AreAbove numbers low node.edges.items → IsAbove numbers low e) → height e < i + 1
  node-lower e h = lower e (h (numbers_of (take i nodes)) node.module_number valid.later)
    where
      lower : (e : Target) → IsAbove (numbers_of (take i nodes)) node.module_number e → height e < i + 1
      lower (At index) k = omega (arith, k.0, length-map (take i nodes) number_of, length-take-le i nodes (omega (arith, l)))
      lower (End decision) k = omega arith

  pub number-at : slice_index_or (numbers_of nodes) i 0 ≡ node.module_number
  number-at =
      let long : length (take i nodes) ≡ i = length-take-le i nodes (omega (arith, l)) in
      ap (λ (x : List Node). slice_index_or (numbers_of x) i 0) (sym parts)
      ∙ ap (λ (x : List ℕ). slice_index_or x i 0) (map-append number_of (take i nodes) (node ∷ drop (i + 1) nodes))
      ∙ ap (λ (n : ℕ). slice_index_or (numbers_of (take i nodes) ++ node.module_number ∷ numbers_of (drop (i + 1) nodes)) n 0)
      (sym (length-map (take i nodes) number_of ∙ long))
      ∙ get_or-append_seam (numbers_of (take i nodes)) node.module_number (numbers_of (drop (i + 1) nodes)) 0

  pub walks-node : slice_index_or (walks_of nodes) i [] ≡ walks_at (walks_of nodes) node
  walks-node =
      let long : length (take i nodes) ≡ i = length-take-le i nodes (omega (arith, l)) in
      ap (λ (x : List Node). slice_index_or (walks_of x) i []) (sym parts)
      ∙ ap (λ (n : ℕ). slice_index_or (walks_of (take i nodes ++ node ∷ drop (i + 1) nodes)) n []) (sym long)
      ∙ walks-seam (take i nodes) (drop (i + 1) nodes) node (AreAbove-within (take i nodes) node.module_number node.edges.items valid.later)
      ∙ ap (λ (x : List Node). walks_at (walks_of x) node) parts

  -- in the order of a direction
  pub walks-in : (d : Direction) → walks_to (known_in d nodes) (At i) ≡ flat_map (walks_by (known_in d nodes) node.module_number) (edges_in d node.edges.items)
  walks-in d =
      known-at d nodes (At i)
      ∙ ap (ordered d) walks-node
      ∙ flat-in d (walks_by (walks_of nodes) node.module_number) node.edges.items
      ∙ flat-same (λ e. ordered d (walks_by (walks_of nodes) node.module_number e)) (walks_by (known_in d nodes) node.module_number)
      (λ e. sym (by-in d nodes node.module_number e)) (edges_in d node.edges.items)

-- WANTED WALKS

-- the first of some edges, and the others
pub wanted-first : (goal : Goal) (before is_met : Bool) (known : List (List PathValue)) (m : ℕ) (e : Edge) (es : List Edge) → is_met ≡
    (before || met_by goal (step_by m e)) →
    wanted_by goal before known m (e ∷ es)
    ≡ map (after_step (record { module_number = m; class = e.class })) (wanted_of goal is_met (walks_to known e.target)) ++ wanted_by goal before known m es
wanted-first goal before is_met known m e es same =
    let step : StepValue = record { module_number = m; class = e.class } in
    filter-append (wanted goal before) (walks_by known m e) (flat_map (walks_by known m) es)
    ∙ ap (λ (x : List PathValue). x ++ wanted_by goal before known m es)
    (wanted-stepped goal before step (walks_to known e.target)
    ∙ ap (λ (t : Bool). map (after_step step) (wanted_of goal t (walks_to known e.target))) (sym same))

pub wanted-in : (d : Direction) (goal : Goal) (is_met : Bool) (walks : List PathValue) → wanted_of goal is_met (ordered d walks) ≡ ordered d
    (wanted_of goal is_met walks)
wanted-in Forward goal is_met walks = refl
wanted-in Backward goal is_met walks = filter-reverse (wanted goal is_met) walks

length-ordered : (d : Direction) (walks : List PathValue) → length (ordered d walks) ≡ length walks
length-ordered Forward walks = refl
length-ordered Backward walks = length-reverse walks

number-in : (d : Direction) (goal : Goal) (is_met : Bool) (walks : List PathValue) → number goal is_met (ordered d walks) ≡ number goal is_met walks
unfolding number
number-in d goal is_met walks =
    ap (λ (x : List PathValue). fit (length x)) (wanted-in d goal is_met walks) ∙ ap fit (length-ordered d (wanted_of goal is_met walks))

tallies-same : (d : Direction) (goal : Goal) (known : List (List PathValue)) → map (tally_of goal) known ≡ map (tally_of goal) (map (ordered d) known)
tallies-same d goal [] = refl
tallies-same d goal (walks ∷ known) =
    let two : Tally → List Tally = λ t. t ∷ map (tally_of goal) known in
    ap (λ (x : _). two (record { all = x; met = number goal false walks })) (sym (number-in d goal true walks))
    ∙ ap (λ (x : _). two (record { all = number goal true (ordered d walks); met = x })) (sym (number-in d goal false walks))
    ∙ ap (λ (ts : List Tally). tally_of goal (ordered d walks) ∷ ts) (tallies-same d goal known)

pub tallies-in : (d : Direction) (goal : Goal) (nodes : List Node) (tallies : List Tally) → tallies ≡ tallies_of goal nodes →
    tallies ≡ map (tally_of goal) (known_in d nodes)
tallies-in d goal nodes tallies is = is ∙ tallies-same d goal (walks_of nodes)
