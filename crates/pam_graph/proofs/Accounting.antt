-- In how many ways runs come to each node, and to each decision.
use Rattle.std.proofs.Common.{◌≡◌, ℕ, ◌+◌, ◌*◌, ◌<◌, Bool, true, false, ◌||◌, List, [], ◌∷◌, ◌++◌, Option, None, Some, map, cond, refl, sym, ◌∙◌}
use Rattle.std.proofs.Common.{ap, arith, drop, length, slice_index_or, take, zero, suc}
use Rattle.std.proofs.lemmas.Bool.{eq-eqb, ne_eqb}
use Rattle.std.proofs.lemmas.List.{length-append, length-map, length-take-le, map-append, map-set, take_more}
use Rattle.std.proofs.lemmas.List as lists
use Rattle.std.proofs.lemmas.List.Elements.{filter-append}
use Rattle.std.proofs.lemmas.List.FromFn.{get_or-map-range_with_len}
use Rattle.std.proofs.Math.ListN.{get_or-map, replicate, set}
use Rattle.std.proofs.Math.Nat.{add-mul, add-zero, mul-add, mul-one, mul-zero, zero-add, zero-mul}
use Rattle.std.specs.List.{flat_map}
use Rattle.std.specs.Prelude.{filter, fold}
use Rattle.pam_codes.specs.Code.{all_codes}
use Rattle.pam_codes.specs.Set.{is_in}
use Rattle.pam_codes.specs.declared.code.TheConstants.{CODES}
use Rattle.pam_graph.specs.declared.goal.Goal.TheVariants.{Decides}
use Rattle.pam_graph.specs.declared.node.Edge.{Edge}
use Rattle.pam_graph.specs.declared.node.Node.{Node}
use Rattle.pam_graph.specs.declared.node.Target.{Target}
use Rattle.pam_graph.specs.declared.node.Target.TheVariants.{At, End}
use Rattle.pam_graph.specs.Goals.{fit, meeting}
use Rattle.pam_graph.specs.inner.Tallies.{plus}
use Rattle.pam_graph.specs.Walks.{walks_at, walks_by, walks_of, walks_to}
use Rattle.pam_graph.specs.inner.Accounts.{Accounts, AreCounts, deciders, dot, walks_at_ends}
use Rattle.pam_graph.proofs.Counting.{ended, filter-map, plus-fit}
use Rattle.pam_graph.proofs.Tables.{length-walks_of, table-push}
use Rattle.pam_paths.specs.Computed.{after_step}
use Rattle.pam_paths.specs.Paths.{PathValue, StepValue}

-- THE NUMBER OF THE WALKS WHOSE DECISION PASSES A TEST

deciders-append : (test : ℕ → Bool) (one other : List PathValue) → deciders test (one ++ other) ≡ deciders test one + deciders test other
unfolding deciders
deciders-append test one other =
    ap (λ (x : List PathValue). length x) (filter-append (λ (walk : PathValue). test walk.decision) one other)
    ∙ length-append (filter (λ (walk : PathValue). test walk.decision) one) (filter (λ (walk : PathValue). test walk.decision) other)

deciders-stepped : (test : ℕ → Bool) (step : StepValue) (walks : List PathValue) → deciders test (map (after_step step) walks) ≡ deciders test walks
unfolding deciders
deciders-stepped test step walks =
    let passes = λ (walk : PathValue). test walk.decision in
    ap (λ (x : List PathValue). length x) (filter-map passes passes (after_step step) (λ walk. refl) walks)
    ∙ length-map (filter passes walks) (after_step step)

deciders-none : (test : ℕ → Bool) → deciders test [] ≡ 0
unfolding deciders
deciders-none test = refl

deciders-end : (test : ℕ → Bool) (decision : ℕ) (t : Bool) → test decision ≡ t → deciders test (ended decision ∷ []) ≡ cond t 1 0
unfolding deciders
deciders-end test decision t h =
    ap (λ (x : Bool). length (cond x (ended decision ∷ []) [])) h
    ∙ (elim t as (λ (x : Bool). length (cond x (ended decision ∷ []) []) ≡ cond x 1 0) [
      | true ↦ refl
      | false ↦ refl
    ])

-- of the walks in a table
deciders-at : (test : ℕ → Bool) (table : List (List PathValue)) (index : ℕ) →
    slice_index_or (map (deciders test) table) index 0 ≡ deciders test (slice_index_or table index [])
deciders-at test table index =
    ap (slice_index_or (map (deciders test) table) index) (sym (deciders-none test)) ∙ get_or-map (deciders test) table index []

deciders-ended : (test : ℕ → Bool) (decision : ℕ) → decision < CODES →
    slice_index_or (map (deciders test) walks_at_ends) decision 0 ≡ deciders test (ended decision ∷ [])
unfolding all_codes
deciders-ended test decision l =
    deciders-at test walks_at_ends decision
    ∙ ap (deciders test) (get_or-map-range_with_len (λ (code : ℕ). ended code ∷ []) 0 CODES decision decision [] l (zero-add decision))

-- of one code, and of all
deciders-one : (code : ℕ) (walks : List PathValue) → deciders (λ decision. is_in decision (code ∷ [])) walks ≡ length (meeting (Decides (code ∷ [])) walks)
unfolding deciders
deciders-one code walks = refl

deciders-all : (walks : List PathValue) → deciders (λ decision. true) walks ≡ length walks
unfolding deciders
deciders-all [] = refl
deciders-all (walk ∷ walks) = let again = deciders-all walks in omega (arith, again)

-- SUMS OF PRODUCTS

assoc : (a b c : ℕ) → a + (b + c) ≡ a + b + c
assoc a b c = omega arith

swap-end : (a b c : ℕ) → a + b + c ≡ a + c + b
swap-end a b c = omega arith

dot-nil : (ns : List ℕ) → dot ns [] ≡ 0
unfolding dot
dot-nil [] = refl
dot-nil (n ∷ ns) = refl

dot-set : (ns others : List ℕ) (i x : ℕ) → i < length ns → dot (set ns i (slice_index_or ns i 0 + x)) others ≡ dot ns others + x * slice_index_or others i 0
unfolding dot
dot-set [] others i x l = absurd (omega arith)
dot-set (n ∷ ns) [] i x l = dot-nil (set (n ∷ ns) i (slice_index_or (n ∷ ns) i 0 + x)) ∙ sym (ap (λ (z : ℕ). 0 + z) (mul-zero x))
dot-set (n ∷ ns) (k ∷ others) zero x l =
    ap (λ (z : ℕ). z + dot ns others) (add-mul n x k) ∙ swap-end (n * k) (x * k) (dot ns others)
dot-set (n ∷ ns) (k ∷ others) (suc i) x l =
    ap (λ (z : ℕ). n * k + z) (dot-set ns others i x (omega (arith, l))) ∙ assoc (n * k) (dot ns others) (x * slice_index_or others i 0)

dot-push : (ns others : List ℕ) (n k : ℕ) → length ns ≡ length others → dot (ns ++ n ∷ []) (others ++ k ∷ []) ≡ dot ns others + n * k
unfolding dot
dot-push [] [] n k h = omega arith
dot-push [] (y ∷ others) n k h = absurd (omega (arith, h))
dot-push (x ∷ ns) [] n k h = absurd (omega (arith, h))
dot-push (x ∷ ns) (y ∷ others) n k h =
    ap (λ (z : ℕ). x * y + z) (dot-push ns others n k (omega (arith, h))) ∙ assoc (x * y) (dot ns others) (n * k)

dot-zeros : (count : ℕ) (others : List ℕ) → dot (replicate count 0) others ≡ 0
unfolding dot
dot-zeros zero others = refl
dot-zeros (suc count) [] = refl
dot-zeros (suc count) (k ∷ others) =
    ap (λ (z : ℕ). z + dot (replicate count 0) others) (zero-mul k) ∙ zero-add (dot (replicate count 0) others) ∙ dot-zeros count others

-- where the others are 0, or 1 at one index alone
dot-none : (ns others : List ℕ) → ((j : ℕ) → j < length ns → slice_index_or others j 0 ≡ 0) → dot ns others ≡ 0
unfolding dot
dot-none [] others none = refl
dot-none (n ∷ ns) [] none = refl
dot-none (n ∷ ns) (k ∷ others) none =
    ap (λ (x : ℕ). n * x + dot ns others) (none 0 (omega arith))
    ∙ ap (λ (x : ℕ). x + dot ns others) (mul-zero n)
    ∙ zero-add (dot ns others)
    ∙ dot-none ns others (λ j l. none (suc j) (omega (arith, l)))

dot-one : (ns others : List ℕ) (i : ℕ) → i < length ns → slice_index_or others i 0 ≡ 1 →
    ((j : ℕ) → j < length ns → (i ≡ j → ⊥) → slice_index_or others j 0 ≡ 0) → dot ns others ≡ slice_index_or ns i 0
unfolding dot
dot-one [] others i l one none = absurd (omega arith)
dot-one (n ∷ ns) [] i l one none = absurd (omega (arith, one))
dot-one (n ∷ ns) (k ∷ others) zero l one none =
    ap (λ (x : ℕ). n * x + dot ns others) one
    ∙ ap (λ (x : ℕ). n * 1 + x) (dot-none ns others (λ j m. none (suc j) (omega (arith, m)) (λ e. omega (arith, e))))
    ∙ ap (λ (x : ℕ). x + 0) (mul-one n)
    ∙ add-zero n
dot-one (n ∷ ns) (k ∷ others) (suc i) l one none =
    ap (λ (x : ℕ). n * x + dot ns others) (none 0 (omega arith) (λ e. omega (arith, e)))
    ∙ ap (λ (x : ℕ). x + dot ns others) (mul-zero n)
    ∙ zero-add (dot ns others)
    ∙ dot-one ns others i (omega (arith, l)) one (λ j m differ. none (suc j) (omega (arith, m)) (λ e. differ (omega (arith, e))))

-- where they are 1, that is the sum of the numbers
dot-sum : (before : ℕ) (ns others : List ℕ) → ((j : ℕ) → j < length ns → slice_index_or others j 0 ≡ 1) →
    fold plus (fit before) (map fit ns) ≡ fit (before + dot ns others)
unfolding dot
dot-sum before [] others one = ap fit (omega arith)
dot-sum before (n ∷ ns) [] one = absurd (omega (arith, one 0 (omega arith)))
dot-sum before (n ∷ ns) (k ∷ others) one =
    ap (λ (x : Option ℕ). fold plus x (map fit ns)) (plus-fit before n)
    ∙ dot-sum (before + n) ns others (λ j l. one (suc j) (omega (arith, l)))
    ∙ ap fit (sym (assoc before n (dot ns others))
    ∙ ap (λ (x : ℕ). before + (x + dot ns others)) (sym (ap (λ (x : ℕ). n * x) (one 0 (omega arith)) ∙ mul-one n)))

-- A NUMBER IS ADDED IN A TABLE

sum-at : (table : List (Option ℕ)) (ns : List ℕ) (i n : ℕ) (number d : Option ℕ) → table ≡ map fit ns → i < length ns → number ≡ fit n →
    set table i (plus (slice_index_or table i d) number) ≡ map fit (set ns i (slice_index_or ns i 0 + n))
sum-at table ns i n number d same l is =
    ap (λ (x : List (Option ℕ)). set x i (plus (slice_index_or x i d) number)) same
    ∙ ap (λ (x : Option ℕ). set (map fit ns) i (plus x number)) (lists.get_or-map fit ns i 0 d l)
    ∙ ap (λ (x : Option ℕ). set (map fit ns) i (plus (fit (slice_index_or ns i 0)) x)) is
    ∙ ap (set (map fit ns) i) (plus-fit (slice_index_or ns i 0) n)
    ∙ sym (map-set fit ns i (slice_index_or ns i 0 + n))

-- THE ACCOUNT

module _ (all : List PathValue) (known : List (List PathValue)) (ends ways : List (Option ℕ)) where
  -- what is left may be said otherwise
  pub left-is : (left other : (ℕ → Bool) → ℕ) → ((test : ℕ → Bool) → other test ≡ left test) →
      Accounts all known ends ways left → Accounts all known ends ways other
  left-is left other h a = record {
    at_ends = a.at_ends;
    at_nodes = a.at_nodes;
    ends_are = a.ends_are;
    nodes_are = a.nodes_are;
    sum = λ test.
        ap (λ (x : ℕ). dot a.at_ends (map (deciders test) walks_at_ends) + dot a.at_nodes (map (deciders test) known) + x) (h test) ∙ a.sum test;
  }

  module _ (number d : Option ℕ) (n : ℕ) (left : (ℕ → Bool) → ℕ) (is : number ≡ fit n) where
    -- to a node
    pub come-at : (index : ℕ) → index < length ways → Accounts all known ends ways (λ test. n * deciders test (walks_to known (At index)) + left test) →
        Accounts all known ends (set ways index (plus (slice_index_or ways index d) number)) left
    come-at index l a =
        let inside : index < length a.at_nodes = omega (arith, l, ap (λ (x : List (Option ℕ)). length x) a.nodes_are, length-map a.at_nodes fit) in
        record {
          at_ends = a.at_ends;
          at_nodes = set a.at_nodes index (slice_index_or a.at_nodes index 0 + n);
          ends_are = a.ends_are;
          nodes_are = sum-at ways a.at_nodes index n number d a.nodes_are inside is;
          sum = λ test.
              let e = dot a.at_ends (map (deciders test) walks_at_ends) in
              let m = dot a.at_nodes (map (deciders test) known) in
              ap (λ (x : ℕ). e + x + left test) (dot-set a.at_nodes (map (deciders test) known) index n inside)
              ∙ ap (λ (x : ℕ). e + (m + n * x) + left test) (deciders-at test known index)
              ∙ moved e m (n * deciders test (walks_to known (At index))) (left test)
              ∙ a.sum test;
        }
      where
        moved : (a b c e : ℕ) → a + (b + c) + e ≡ a + b + (c + e)
        moved a b c e = omega arith

    -- to an end
    pub come-end : (decision : ℕ) → decision < CODES → length ends ≡ CODES →
        Accounts all known ends ways (λ test. n * deciders test (walks_to known (End decision)) + left test) →
        Accounts all known (set ends decision (plus (slice_index_or ends decision d) number)) ways left
    come-end decision l few a =
        let inside : decision < length a.at_ends =
        omega (arith, l, few, ap (λ (x : List (Option ℕ)). length x) a.ends_are, length-map a.at_ends fit) in
        record {
          at_ends = set a.at_ends decision (slice_index_or a.at_ends decision 0 + n);
          at_nodes = a.at_nodes;
          ends_are = sum-at ends a.at_ends decision n number d a.ends_are inside is;
          nodes_are = a.nodes_are;
          sum = λ test.
              let e = dot a.at_ends (map (deciders test) walks_at_ends) in
              let m = dot a.at_nodes (map (deciders test) known) in
              ap (λ (x : ℕ). x + m + left test) (dot-set a.at_ends (map (deciders test) walks_at_ends) decision n inside)
              ∙ ap (λ (x : ℕ). e + n * x + m + left test) (deciders-ended test decision l)
              ∙ between e (n * deciders test (ended decision ∷ [])) m (left test)
              ∙ a.sum test;
        }
      where
        between : (a b c e : ℕ) → a + b + c + e ≡ a + c + (b + e)
        between a b c e = omega arith

-- the first of some edges, and the others
pub edges-left : (known : List (List PathValue)) (m n : ℕ) (test : ℕ → Bool) (edge : Edge) (edges : List Edge) →
    n * deciders test (walks_to known edge.target) + n * deciders test (flat_map (walks_by known m) edges)
    ≡ n * deciders test (flat_map (walks_by known m) (edge ∷ edges))
edges-left known m n test edge edges =
    sym (mul-add n (deciders test (walks_to known edge.target)) (deciders test (flat_map (walks_by known m) edges)))
    ∙ ap (λ (x : ℕ). n * (x + deciders test (flat_map (walks_by known m) edges)))
    (sym (deciders-stepped test (record { module_number = m; class = edge.class }) (walks_to known edge.target)))
    ∙ ap (λ (x : ℕ). n * x) (sym (deciders-append test (walks_by known m edge) (flat_map (walks_by known m) edges)))

pub none-left : (known : List (List PathValue)) (m n : ℕ) (test : ℕ → Bool) → 0 ≡ n * deciders test (flat_map (walks_by known m) [])
none-left known m n test = sym (ap (λ (x : ℕ). n * x) (deciders-none test) ∙ mul-zero n)

-- AT THE START, EACH WALK IS ON THE WAY

map-zeros : (count : ℕ) → map fit (replicate count 0) ≡ replicate count (Some 0)
unfolding fit
map-zeros zero = refl
map-zeros (suc count) = ap (λ (x : List (Option ℕ)). Some 0 ∷ x) (map-zeros count)

pub one-way : Some 1 ≡ fit 1
unfolding fit
one-way = refl

pub begins : (all : List PathValue) (known : List (List PathValue)) (ends ways : List (Option ℕ)) (count : ℕ) (start : Target) →
    ends ≡ replicate CODES (Some 0) → ways ≡ replicate count (Some 0) → walks_to known start ≡ all →
    Accounts all known ends ways (λ test. 1 * deciders test (walks_to known start) + 0)
begins all known ends ways count start none empty same = record {
  at_ends = replicate CODES 0;
  at_nodes = replicate count 0;
  ends_are = none ∙ sym (map-zeros CODES);
  nodes_are = empty ∙ sym (map-zeros count);
  sum = λ test.
      let d = deciders test (walks_to known start) in
      ap (λ (x : ℕ). x + dot (replicate count 0) (map (deciders test) known) + (1 * d + 0)) (dot-zeros CODES (map (deciders test) walks_at_ends))
      ∙ ap (λ (x : ℕ). 0 + x + (1 * d + 0)) (dot-zeros count (map (deciders test) known))
      ∙ nothing d ∙ ap (deciders test) same;
}
  where
    nothing : (d : ℕ) → 0 + 0 + (1 * d + 0) ≡ d
    nothing d = omega arith

-- AT THE END, THE ENDS HAVE ALL

none-yet : Some 0 ≡ fit 0
unfolding fit
none-yet = refl

module _ (all : List PathValue) (known : List (List PathValue)) (ends ways : List (Option ℕ)) (few : length ends ≡ CODES) (none : length ways ≡ 0) where
  -- each walk has come to an end
  ended-all : (a : Accounts all known ends ways (λ test. 0)) (test : ℕ → Bool) → dot a.at_ends (map (deciders test) walks_at_ends) ≡ deciders test all
  ended-all a test =
      let e = dot a.at_ends (map (deciders test) walks_at_ends) in
      let left : length a.at_nodes ≡ 0 = sym (length-map a.at_nodes fit) ∙ sym (ap (λ (x : List (Option ℕ)). length x) a.nodes_are) ∙ none in
      alone e
      ∙ ap (λ (x : ℕ). e + x + 0) (sym (dot-none a.at_nodes (map (deciders test) known) (λ j l. absurd (omega (arith, left, l)))))
      ∙ a.sum test
    where
      alone : (n : ℕ) → n ≡ n + 0 + 0
      alone n = omega arith

  pub ends-are : Accounts all known ends ways (λ test. 0) → AreCounts ends all
  ends-are a =
      let long : length a.at_ends ≡ CODES = sym (length-map a.at_ends fit) ∙ sym (ap (λ (x : List (Option ℕ)). length x) a.ends_are) ∙ few in
      record {
        few = few;
        each = λ code low.
            let test : ℕ → Bool = λ decision. is_in decision (code ∷ []) in
            ap (λ (x : List (Option ℕ)). slice_index_or x code None) a.ends_are
            ∙ lists.get_or-map fit a.at_ends code 0 None (omega (arith, low, long))
            ∙ ap fit (sym (dot-one a.at_ends (map (deciders test) walks_at_ends) code (omega (arith, low, long))
            (deciders-ended test code low ∙ deciders-end test code true (same-code code))
            (λ other l differ. deciders-ended test other (omega (arith, l, long)) ∙ deciders-end test other false (other-code code other differ)))
            ∙ ended-all a test ∙ deciders-one code all);
        whole = ap (fold plus (Some 0)) a.ends_are
            ∙ ap (λ (x : Option ℕ). fold plus x (map fit a.at_ends)) none-yet
            ∙ dot-sum 0 a.at_ends (map (deciders (λ decision. true)) walks_at_ends)
            (λ code l. deciders-ended (λ decision. true) code (omega (arith, l, long)) ∙ deciders-end (λ decision. true) code true refl)
            ∙ ap fit (zero-add (dot a.at_ends (map (deciders (λ decision. true)) walks_at_ends)) ∙ ended-all a (λ decision. true) ∙ deciders-all all);
      }
    where
      same-code : (code : ℕ) → is_in code (code ∷ []) ≡ true
      same-code code = ap (λ (t : Bool). t || false) (eq-eqb code code refl)

      other-code : (code other : ℕ) → (code ≡ other → ⊥) → is_in other (code ∷ []) ≡ false
      other-code code other differ = ap (λ (t : Bool). t || false) (ne_eqb code other differ)

-- A NODE IS LEFT

unsnoc : (table : List (Option ℕ)) (number : Option ℕ) (ns : List ℕ) → table ++ number ∷ [] ≡ map fit ns →
    (first : List ℕ) × (n : ℕ) × (ns ≡ first ++ n ∷ []) × (table ≡ map fit first) × (number ≡ fit n)
unsnoc table number [] h = absurd (omega (arith, ap (λ (x : List (Option ℕ)). length x) h, length-append table (number ∷ [])))
unsnoc [] number (m ∷ []) h = ([], m, refl, refl, ap (λ (x : List (Option ℕ)). slice_index_or x 0 number) h)
unsnoc [] number (m ∷ k ∷ ms) h = absurd (omega (arith, ap (λ (x : List (Option ℕ)). length x) h))
unsnoc (v ∷ table) number (m ∷ ms) h =
    let again = unsnoc table number ms (ap (drop 1) h) in (
      m ∷ again.0,
      again.1,
      ap (λ (x : List ℕ). m ∷ x) again.2,
      ap (λ (x : Option ℕ). x ∷ table) (ap (λ (x : List (Option ℕ)). slice_index_or x 0 v) h) ∙ ap (λ (x : List (Option ℕ)). fit m ∷ x) again.3,
      again.4,
    )

pub node-left : (all : List PathValue) (nodes : List Node) (ends old new : List (Option ℕ)) (number : Option ℕ) (node : Node) →
    old ≡ new ++ number ∷ [] → length new < length nodes → node ≡ slice_index_or nodes (length new) node →
    Accounts all (walks_of (take (length old) nodes)) ends old (λ test. 0) →
    (n : ℕ) × (number ≡ fit n) × Accounts all (walks_of (take (length new) nodes)) ends new
    (λ test. n * deciders test (flat_map (walks_by (walks_of (take (length new) nodes)) node.module_number) node.edges.items))
node-left all nodes ends old new number node is l at a =
    let split = unsnoc new number a.at_nodes (sym is ∙ a.nodes_are) in
    let first = split.0 in
    let n = split.1 in
    let j = length new in
    let known = walks_of (take j nodes) in
    let here = walks_at known node in
    let long : length old ≡ j + 1 = ap (λ (x : List (Option ℕ)). length x) is ∙ length-append new (number ∷ []) in
    let grown : walks_of (take (length old) nodes) ≡ known ++ here ∷ [] =
    ap (λ (x : ℕ). walks_of (take x nodes)) long
    ∙ ap walks_of (take_more nodes j node l ∙ ap (λ (x : Node). take j nodes ++ x ∷ []) (sym at))
    ∙ table-push walks_at [] (take j nodes) node in
    let count : length known ≡ j = length-walks_of (take j nodes) ∙ length-take-le j nodes (omega (arith, l)) in
    let few : length first ≡ j = sym (length-map first fit) ∙ sym (ap (λ (x : List (Option ℕ)). length x) split.3) in (
      n,
      split.4,
      record {
        at_ends = a.at_ends;
        at_nodes = first;
        ends_are = a.ends_are;
        nodes_are = split.3;
        sum = λ test.
            let e = dot a.at_ends (map (deciders test) walks_at_ends) in
            let same : length first ≡ length (map (deciders test) known) = few ∙ sym (length-map known (deciders test) ∙ count) in
            apart e (dot first (map (deciders test) known)) (n * deciders test here)
            ∙ ap (λ (x : ℕ). e + x + 0) (sym (dot-push first (map (deciders test) known) n (deciders test here) same)
            ∙ ap (dot (first ++ n ∷ [])) (sym (map-append (deciders test) known (here ∷ [])))
            ∙ ap (λ (x : List ℕ). dot x (map (deciders test) (known ++ here ∷ []))) (sym split.2)
            ∙ ap (λ (x : List (List PathValue)). dot a.at_nodes (map (deciders test) x)) (sym grown))
            ∙ a.sum test;
      },
    )
  where
    apart : (a b c : ℕ) → a + b + c ≡ a + (b + c) + 0
    apart a b c = omega arith
