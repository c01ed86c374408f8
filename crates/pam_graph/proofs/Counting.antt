-- The numbers of walks.
use Rattle.std.proofs.Common.{◌≡◌, ℕ, ◌+◌, ◌<◌, ◌≤◌, ◌^◌, Bool, true, false, ◌||◌, List}
use Rattle.std.proofs.Common.{[], ◌∷◌, ◌++◌, Option, None, Some, map, cond, refl, sym, ◌∙◌, ap, arith}
use Rattle.std.proofs.Common.{append_assoc, append-nil, length, filter, inl, inr, subst}
use Rattle.std.proofs.lemmas.Bool.{cases_lt, cond-false, cond-true, false≢true, le-ltb, lt-ltb}
use Rattle.std.proofs.lemmas.List.{length-append, length-map, map-append}
use Rattle.std.proofs.lemmas.List.Elements.{filter-append}
use Rattle.std.proofs.Math.ListN.{get_or-map}
use Rattle.std.specs.List.{flat_map, list_any}
use Rattle.std.specs.Option.{SomeIff}
use Rattle.std.specs.Prelude.{nat_lt}
use Rattle.pam_graph.specs.declared.goal.Goal.{Goal}
use Rattle.pam_graph.specs.declared.goal.Goal.TheVariants.{Any, Decides, Asks, PastEnd}
use Rattle.pam_graph.specs.declared.node.Edge.{Edge}
use Rattle.pam_graph.specs.declared.node.Node.{Node}
use Rattle.pam_graph.specs.declared.node.Target.{Target}
use Rattle.pam_graph.specs.declared.node.Target.TheVariants.{At, End}
use Rattle.pam_graph.specs.declared.tally.Tally.{Tally}
use Rattle.pam_graph.specs.Goals.{fit, meeting, meets}
use Rattle.pam_graph.specs.inner.Tallies.{count_to, has_walks, met_at_end, met_by, number, plus, step_by}
use Rattle.pam_graph.specs.Tallies.{wanted, wanted_of}
use Rattle.pam_graph.specs.inner.Tallies.{sum_from, tallies_of, tally_at, tally_by, tally_of}
use Rattle.pam_graph.specs.Walks.{table, walks_at, walks_by, walks_of, walks_to}
use Rattle.pam_graph.specs.inner.Within.{IsWithin}
use Rattle.pam_graph.proofs.Tables.{length-walks_of}
use Rattle.pam_paths.specs.Computed.{after_step}
use Rattle.pam_paths.specs.Paths.{PathValue, StepValue}

-- WHAT IS SAID OF THE WALKS OF EACH NODE IS COMPUTED NODE BY NODE

pub table-map : {A B : Type 0} (said : A → B) (one : List A → Node → A) (other : List B → Node → B) →
    ((known : List A) (node : Node) → said (one known node) ≡ other (map said known) node) →
    (known : List A) (nodes : List Node) → map said (table one known nodes) ≡ table other (map said known) nodes
unfolding table
table-map said one other step known [] = refl
table-map said one other step known (node ∷ nodes) =
    table-map said one other step (known ++ one known node ∷ []) nodes
    ∙ ap (λ x. table other x nodes)
    (map-append said known (one known node ∷ []) ∙ ap (λ x. map said known ++ x ∷ []) (step known node))

-- NUMBERS THAT FIT

fit-small : (n : ℕ) → n < 2 ^ 128 → fit n ≡ Some n
unfolding fit
fit-small n h = cond-true (nat_lt n (2 ^ 128)) (Some n) None (lt-ltb n (2 ^ 128) h)

fit-large : (n : ℕ) → 2 ^ 128 ≤ n → fit n ≡ None
unfolding fit
fit-large n h = cond-false (nat_lt n (2 ^ 128)) (Some n) None (le-ltb n (2 ^ 128) h)

pub plus-fit : (a b : ℕ) → plus (fit a) (fit b) ≡ fit (a + b)
plus-fit a b =
    elim (cases_lt a (2 ^ 128)) [
      | inl l ↦ elim (cases_lt b (2 ^ 128)) [
        | inl k ↦ ap (λ x. plus x (fit b)) (fit-small a l) ∙ ap (plus (Some a)) (fit-small b k)
        | inr k ↦ ap (λ x. plus x (fit b)) (fit-small a l) ∙ ap (plus (Some a)) (fit-large b k) ∙ sym (fit-large (a + b) (omega arith))
      ]
      | inr l ↦ ap (λ x. plus x (fit b)) (fit-large a l) ∙ sym (fit-large (a + b) (omega arith))
    ]

-- a sum that is checked
pub sum-fits : (r : Option ℕ) (a b : ℕ) → SomeIff r (a + b < 2 ^ 128) (a + b) → r ≡ fit (a + b)
sum-fits (Some n) a b h = ap (λ (x : ℕ). Some x) h.1 ∙ sym (fit-small (a + b) h.0)
sum-fits None a b h = elim (cases_lt (a + b) (2 ^ 128)) [ inl l ↦ absurd (h l) | inr l ↦ sym (fit-large (a + b) l) ]

-- THE WALKS AFTER A STEP

abbrev pub ended : ℕ → PathValue
ended decision = record { steps = []; decision = decision }

pub filter-map : (p q : PathValue → Bool) (f : PathValue → PathValue) → ((x : PathValue) → p (f x) ≡ q x) →
    (xs : List PathValue) → filter p (map f xs) ≡ map f (filter q xs)
filter-map p q f h [] = refl
filter-map p q f h (x ∷ xs) =
    let again : filter p (map f xs) ≡ map f (filter q xs) = filter-map p q f h xs in
    ap (λ (t : Bool). cond t (f x ∷ filter p (map f xs)) (filter p (map f xs))) (h x)
    ∙ (elim (q x) as (λ (t : Bool). cond t (f x ∷ filter p (map f xs)) (filter p (map f xs)) ≡ map f (cond t (x ∷ filter q xs) (filter q xs))) [
      | true ↦ ap (λ (ys : List PathValue). f x ∷ ys) again
      | false ↦ again
    ])

module _ (goal : Goal) where
  -- a walk is wanted if it is wanted after its first step
  wanted-step : (g : Goal) (is_met : Bool) (step : StepValue) (walk : PathValue) →
      wanted g is_met (after_step step walk) ≡ wanted g (is_met || met_by g step) walk
  wanted-step g true step walk = refl
  wanted-step Any false step walk = refl
  wanted-step (Decides codes) false step walk = refl
  wanted-step (Asks number) false step walk = refl
  wanted-step (PastEnd codes) false step walk = refl

  pub wanted-stepped : (is_met : Bool) (step : StepValue) (walks : List PathValue) →
      wanted_of goal is_met (map (after_step step) walks)
      ≡ map (after_step step) (wanted_of goal (is_met || met_by goal step) walks)
  wanted-stepped is_met step walks =
      filter-map (wanted goal is_met) (wanted goal (is_met || met_by goal step)) (after_step step) (wanted-step goal is_met step) walks

  -- the end of a run
  pub meets-end : (g : Goal) (decision : ℕ) → meets g (ended decision) ≡ met_at_end g decision
  meets-end Any decision = refl
  meets-end (Decides codes) decision = refl
  meets-end (Asks number) decision = refl
  meets-end (PastEnd codes) decision = refl

  -- THE NUMBERS OF WALKS

  number-stepped : (is_met : Bool) (step : StepValue) (walks : List PathValue) →
      number goal is_met (map (after_step step) walks) ≡ number goal (is_met || met_by goal step) walks
  unfolding number
  number-stepped is_met step walks =
      ap (λ (x : List PathValue). fit (length x)) (wanted-stepped is_met step walks)
      ∙ ap fit (length_mapped (wanted_of goal (is_met || met_by goal step) walks))
    where
      length_mapped : (xs : List PathValue) → length (map (after_step step) xs) ≡ length xs
      length_mapped [] = refl
      length_mapped (x ∷ xs) = let k = length_mapped xs in omega (arith, k)

  pub number-to : (is_met : Bool) (known : List (List PathValue)) (t : Target) →
      number goal is_met (walks_to known t) ≡ count_to goal is_met (map (tally_of goal) known) t
  unfolding fit number
  number-to is_met known (At index) =
      let here : tally_at (map (tally_of goal) known) index ≡ tally_of goal (walks_to known (At index)) = get_or-map (tally_of goal) known index [] in
      elim is_met as (λ (t : Bool). number goal t (walks_to known (At index))
      ≡ cond t (tally_at (map (tally_of goal) known) index).all (tally_at (map (tally_of goal) known) index).met) [
        | true ↦ sym (ap (λ (x : Tally). x.all) here)
        | false ↦ sym (ap (λ (x : Tally). x.met) here)
      ]
  number-to is_met known (End d) =
      ap (λ (t : Bool). fit (length (cond (is_met || t) (ended d ∷ []) []))) (meets-end goal d)
      ∙ (elim (is_met || met_at_end goal d) as (λ (t : Bool). fit (length (cond t (ended d ∷ []) [])) ≡ cond t (Some 1) (Some 0)) [
        | true ↦ refl
        | false ↦ refl
      ])

  number-append : (is_met : Bool) (one other : List PathValue) → number goal is_met (one ++ other) ≡ plus (number goal is_met one) (number goal is_met other)
  unfolding number
  number-append is_met one other =
      ap (λ (x : List PathValue). fit (length x)) (filter-append (wanted goal is_met) one other)
      ∙ ap fit (length-append (wanted_of goal is_met one) (wanted_of goal is_met other))
      ∙ sym (plus-fit _ _)

  sum-walks : (is_met : Bool) (known : List (List PathValue)) (m : ℕ) (sofar : List PathValue) (edges : List Edge) →
      number goal is_met (sofar ++ flat_map (walks_by known m) edges)
      ≡ sum_from goal is_met m (map (tally_of goal) known) (number goal is_met sofar) edges
  unfolding sum_from
  sum-walks is_met known m sofar [] = ap (number goal is_met) (append-nil sofar)
  sum-walks is_met known m sofar (edge ∷ edges) =
      let here : List PathValue = walks_by known m edge in
      let after : Bool = is_met || met_by goal (step_by m edge) in
      let tallies : List Tally = map (tally_of goal) known in
      let one : number goal is_met here ≡ count_to goal after tallies edge.target =
      number-stepped is_met (step_by m edge) (walks_to known edge.target) ∙ number-to after known edge.target in
      ap (number goal is_met) (sym (append_assoc sofar here (flat_map (walks_by known m) edges)))
      ∙ sum-walks is_met known m (sofar ++ here) edges
      ∙ ap (λ (x : Option ℕ). sum_from goal is_met m tallies x edges) (number-append is_met sofar here ∙ ap (plus (number goal is_met sofar)) one)

  abbrev both : Option ℕ → Option ℕ → Tally
  both all met = record { all = all; met = met }

  tally-at : (known : List (List PathValue)) (node : Node) → tally_of goal (walks_at known node) ≡ tally_by goal (map (tally_of goal) known) node
  unfolding fit number
  tally-at known node =
      let m = node.module_number in
      let edges = node.edges.items in
      let tallies : List Tally = map (tally_of goal) known in
      ap (λ (x : Option ℕ). both x (number goal false (walks_at known node))) (sum-walks true known m [] edges)
      ∙ ap (λ (x : Option ℕ). both (sum_from goal true m tallies (Some 0) edges) x) (sum-walks false known m [] edges)

  pub tallies-table : (nodes : List Node) → tallies_of goal nodes ≡ table (tally_by goal) [] nodes
  tallies-table nodes = table-map (tally_of goal) walks_at (tally_by goal) tally-at [] nodes

-- a target within the nodes is within the tallies
pub tallies-within : (goal : Goal) (nodes : List Node) (tallies : List Tally) (t : Target) → tallies ≡ tallies_of goal nodes →
    IsWithin (length nodes) t → IsWithin (length tallies) t
tallies-within goal nodes tallies t is h =
    let long = ap length is ∙ length-map (walks_of nodes) (tally_of goal) ∙ length-walks_of nodes in
    subst (λ (n : ℕ). IsWithin n t) (sym long) h

-- WHETHER THERE ARE WALKS

has-fit : (n : ℕ) → has_walks (fit n) ≡ nat_lt 0 n
has-fit n =
    elim (cases_lt n (2 ^ 128)) [
      | inl l ↦ ap has_walks (fit-small n l)
      | inr l ↦ ap has_walks (fit-large n l) ∙ sym (lt-ltb 0 n (omega arith))
    ]

some-length : {A : Type 0} (xs : List A) → nat_lt 0 (length xs) ≡ false → xs ≡ []
some-length [] h = refl
some-length (x ∷ xs) h = absurd (false≢true (sym h ∙ lt-ltb 0 (length (x ∷ xs)) (omega arith)))

some-filter : (p : PathValue → Bool) (xs : List PathValue) → nat_lt 0 (length (filter p xs)) ≡ list_any p xs
some-filter p [] = refl
some-filter p (x ∷ xs) =
    elim (p x) as (λ (t : Bool). nat_lt 0 (length (cond t (x ∷ filter p xs) (filter p xs))) ≡ t || list_any p xs) [
      | true ↦ lt-ltb 0 (length (x ∷ filter p xs)) (omega arith)
      | false ↦ some-filter p xs
    ]

module _ (goal : Goal) (is_met : Bool) (known : List (List PathValue)) (tallies : List Tally) (t : Target) (same : tallies ≡ map (tally_of goal) known) where
  abbrev onward : List PathValue
  onward = wanted_of goal is_met (walks_to known t)

  has-onward : has_walks (count_to goal is_met tallies t) ≡ nat_lt 0 (length onward)
  unfolding number
  has-onward =
      ap (λ (x : List Tally). has_walks (count_to goal is_met x t)) same
      ∙ ap has_walks (sym (number-to goal is_met known t)) ∙ has-fit (length onward)

  pub none-onward : has_walks (count_to goal is_met tallies t) ≡ false → onward ≡ []
  none-onward h = some-length onward (sym has-onward ∙ h)

  pub some-onward : has_walks (count_to goal is_met tallies t) ≡ true → onward ≡ [] → ⊥
  some-onward h none = false≢true (ap (λ (x : List PathValue). nat_lt 0 (length x)) (sym none) ∙ sym has-onward ∙ h)

-- whether a walk meets a goal, from the number of those that do
pub any-counted : (goal : Goal) (walks : List PathValue) → has_walks (fit (length (meeting goal walks))) ≡ list_any (meets goal) walks
any-counted goal walks = has-fit (length (meeting goal walks)) ∙ some-filter (meets goal) walks
