-- The distances of a node, by those of its edges.
use Rattle.std.proofs.Common.{◌≡◌, ℕ, ◌+◌, ◌<◌, ◌≤◌, true, false, List, [], ◌∷◌, ◌++◌, ◌⊎◌, inl, inr, sym, ◌∙◌, ap, subst, arith, length, Some, None}
use Rattle.std.proofs.Common.{slice_get, slice_index_or, drop, take, zero, suc}
use Rattle.std.proofs.lemmas.Bool.{and_from, and_parts, cases_eq, cases_lt, false≢true, ne_eqb, or_right}
use Rattle.std.proofs.lemmas.List.{length-append}
use Rattle.std.proofs.Math.ListN.{get_or-append}
use Rattle.std.proofs.Math.Seq.{get_or-append_seam}
use Rattle.std.proofs.Common.{◌≢◌, get_or, get_or-set_other, get_or-set_same, slice_set}
use Rattle.std.proofs.lemmas.List.{take_all, take_more}
use Rattle.std.specs.List.{flat_map}
use Rattle.std.specs.Prelude.{Bool, ◌&&◌, ◌||◌, ◌==◌, min}
use Rattle.pam_codes.specs.Code.{all_codes}
use Rattle.pam_codes.specs.Set.{codes_where, is_in}
use Rattle.pam_codes.specs.inner.SetBits.{is_in-codes_where}
use Rattle.pam_graph.specs.declared.node.Edge.{Edge}
use Rattle.pam_graph.specs.Walks.{walks_by, walks_to}
use Rattle.pam_graph.specs.inner.Within.{AreWithin, IsWithin}
use Rattle.pam_paths.specs.Listing.{Allowance}
use Rattle.pam_paths.specs.Paths.{PathValue}
use Rattle.pam_paths.proofs.Alike.{Member-codes_back, Member-filter_back}
use Rattle.pam_paths.proofs.Listings.{Member-cases}
use Rattle.pam_paths.proofs.Sharing.{Member-is_in, first-in, none-empty}
use Rattle.pam_text.specs.Members.{Member}
use Rattle.pam_policy.specs.declared.search.distances.TheConstants.{FAR}
use Rattle.pam_policy.specs.declared.search.query.Query.{Query}
use Rattle.pam_policy.specs.search.inner.Distances.{AreDistances, GoodAfter, GoodBy, IsChosen, IsDistance, IsLeast, after_answer}
use Rattle.pam_policy.specs.search.inner.Monitor.{first_state}
use Rattle.pam_policy.specs.search.Runs.{RunValue}
use Rattle.pam_policy.proofs.SearchProofs.Choosing.{by-edge, by-edges}

-- ELEMENTS OF LISTS

pub member-at : {X : Type 0} (xs : List X) (i : ℕ) (x : X) → i < length xs → x ≡ get_or xs i x → Member x xs
unfolding Member
member-at [] i x l is = absurd (omega (arith, l))
member-at (y ∷ xs) zero x l is = inl is
member-at (y ∷ xs) (suc i) x l is = inr (member-at xs i x (omega (arith, l)) is)

take-next : {X : Type 0} (xs : List X) (i : ℕ) (x : X) → i < length xs → x ≡ get_or xs i x → take (i + 1) xs ≡ take i xs ++ x ∷ []
take-next {X} xs i x l is = take_more xs i x l ∙ ap (λ (y : X). take i xs ++ y ∷ []) (sym is)

-- an item of a list that is borrowed
pub record IsItem {X : Type 0} (xs : List X) (i : ℕ) (x : X) : Type 0 where
  pub member : Member x xs
  pub next : take (i + 1) xs ≡ take i xs ++ x ∷ []

pub item-of : {X : Type 0} (borrowed xs : List X) (i : ℕ) (x : X) → borrowed ≡ xs → i < length borrowed → x ≡ get_or borrowed i x → IsItem xs i x
item-of {X} borrowed xs i x same l is =
    subst (λ (ys : List X). IsItem ys i x) same (record { member = member-at borrowed i x l is; next = take-next borrowed i x l is })

-- all items of a list that is borrowed
pub taken-of : {X : Type 0} (borrowed xs : List X) (i : ℕ) → borrowed ≡ xs → length borrowed ≤ i → take i xs ≡ xs
taken-of {X} borrowed xs i same l = take_all i xs (subst (λ (ys : List X). length ys ≤ i) same l)

pub within-member : (count : ℕ) (edges : List Edge) (edge : Edge) → AreWithin count edges → Member edge edges → IsWithin count edge.target
unfolding Member AreWithin
within-member count [] edge h i = absurd i
within-member count (x ∷ edges) edge h (inl e) = subst (λ (y : Edge). IsWithin count y.target) (sym e) h.0
within-member count (x ∷ edges) edge h (inr i) = within-member count edges edge h.1 i

-- THE ANSWERS OF AN EDGE that a knowledge allows

abbrev pub answers : Allowance → ℕ → List ℕ → List ℕ
answers allows number class = codes_where (λ c. is_in c class && is_in c (codes_where (allows number)))

low-code : (test : ℕ → Bool) (code : ℕ) → is_in code (codes_where test) ≡ true → code < 31
unfolding all_codes
low-code test code h = (Member-codes_back 0 31 code (Member-filter_back test all_codes code (Member-is_in (codes_where test) code h)).0).1

module _ (allows : Allowance) (number : ℕ) (class : List ℕ) (code : ℕ) where
  pub answer-chosen : is_in code (answers allows number class) ≡ true → IsChosen allows number class code
  answer-chosen h =
      let test : ℕ → Bool = λ c. is_in c class && is_in c (codes_where (allows number)) in
      let low = low-code test code h in
      let parts = and_parts (is_in code class) (is_in code (codes_where (allows number))) (sym (is_in-codes_where test code low) ∙ h) in
      record { is_code = low; allowed = sym (is_in-codes_where (allows number) code low) ∙ parts.1; among = parts.0 }

  pub chosen-answer : IsChosen allows number class code → is_in code (answers allows number class) ≡ true
  chosen-answer h =
      let test : ℕ → Bool = λ c. is_in c class && is_in c (codes_where (allows number)) in
      is_in-codes_where test code h.is_code
      ∙ and_from (is_in code class) (is_in code (codes_where (allows number))) h.among (is_in-codes_where (allows number) code h.is_code ∙ h.allowed)

-- the codes that are left after the first is taken
pub left-in : (codes : List ℕ) (code : ℕ) → is_in code (drop 1 codes) ≡ true → is_in code codes ≡ true
left-in [] code h = h
left-in (c ∷ codes) code h = or_right (c == code) (is_in code codes) h

-- a code that is not left is the first, or was not there
pub left-out : (codes : List ℕ) (first code : ℕ) → slice_get codes 0 ≡ Some first → is_in code (drop 1 codes) ≡ false →
    (code ≡ first) ⊎ (is_in code codes ≡ false)
left-out [] first code e h = absurd (let k : ⊥ = cc in k)
left-out (c ∷ codes) first code e h =
    let same : c ≡ first = cc in
    elim (cases_eq c code) [
      | inl is ↦ inl (sym is ∙ same)
      | inr ne ↦ inr (ap (λ (b : Bool). b || is_in code codes) (ne_eqb c code ne) ∙ h)
    ]

-- SO FAR the least of some runs: of those of which something holds
pub record IsLeastOf (Such Among : RunValue → Type 0) (distance : ℕ) : Type 0 where
  pub least : (run : RunValue) → Among run → distance ≤ length run.steps
  pub reached : distance < FAR → (run : RunValue) × Such run × (length run.steps ≡ distance)

pub least-of-none : (Such Among : RunValue → Type 0) (distance : ℕ) → distance ≡ FAR → ((run : RunValue) → Among run → ⊥) → IsLeastOf Such Among distance
least-of-none Such Among distance far none = record { least = λ run h. absurd (none run h); reached = λ l. absurd (omega (arith, far, l)) }

pub least-of-all : (Such : RunValue → Type 0) (distance : ℕ) → IsLeastOf Such Such distance → IsLeast Such distance
least-of-all Such distance h = record { least = h.least; reached = h.reached }

-- and of others
pub least-of-more : (Such Among Other Both : RunValue → Type 0) (one other least : ℕ) → least ≡ min one other →
    ((run : RunValue) → Both run → Among run ⊎ Other run) → IsLeastOf Such Among one → IsLeastOf Such Other other → IsLeastOf Such Both least
least-of-more Such Among Other Both one other least is cases h k = record {
  least = λ run b. elim (cases run b) [ inl x ↦ omega (arith, is, h.least run x) | inr y ↦ omega (arith, is, k.least run y) ];
  reached = λ l. elim (cases_lt one other) [
    | inl m ↦ let r = h.reached (omega (arith, is, l, m)) in (r.0, r.1, omega (arith, r.2, is, m))
    | inr m ↦ let r = k.reached (omega (arith, is, l, m)) in (r.0, r.1, omega (arith, r.2, is, m))
  ];
}

-- THE ANSWERS OF AN EDGE, one after another

module _ (allows : Allowance) (query : Query) (known : List (List PathValue)) (number state : ℕ) where
  module _ (edge : Edge) where
    abbrev By : RunValue → Type 0
    By rest = GoodBy allows query known number state edge rest

    -- a run by an answer that is not left
    pub record IsTaken (left : List ℕ) (rest : RunValue) : Type 0 where
      pub by : GoodBy allows query known number state edge rest
      pub out : is_in by.code left ≡ false

    pub taken-none : (left : List ℕ) (distance : ℕ) → distance ≡ FAR → left ≡ answers allows number edge.class → IsLeastOf By (IsTaken left) distance
    taken-none left distance far is =
        least-of-none By (IsTaken left) distance far
        (λ rest t. false≢true (sym t.out ∙ ap (is_in t.by.code) is ∙ chosen-answer allows number edge.class t.by.code t.by.chosen))

    pub taken-more : (left rest : List ℕ) (code one other least : ℕ) → slice_get left 0 ≡ Some code → rest ≡ drop 1 left →
        ((c : ℕ) → is_in c left ≡ true → IsChosen allows number edge.class c) → least ≡ min one other → IsLeastOf By (IsTaken left) one →
        IsLeast (GoodAfter allows query (walks_to known edge.target) number code state) other → IsLeastOf By (IsTaken rest) least
    taken-more left rest code one other least first is may smallest h k =
        least-of-more By (IsTaken left) (GoodAfter allows query (walks_to known edge.target) number code state) (IsTaken rest) one other least smallest
        (λ run t. elim (left-out left code t.by.code first (ap (is_in t.by.code) (sym is) ∙ t.out)) [
          | inl e ↦ inr (subst (λ (c : ℕ). GoodAfter allows query (walks_to known edge.target) number c state run) e t.by.good)
          | inr out ↦ inl (record { by = t.by; out = out })
        ]) h (record {
          least = k.least;
          reached = λ l. let r = k.reached l in (r.0, record { code = code; chosen = may code (first-in left code first); good = r.1 }, r.2);
        })

    pub taken-all : (left : List ℕ) (distance : ℕ) → slice_get left 0 ≡ None → IsLeastOf By (IsTaken left) distance → IsLeast By distance
    taken-all left distance none h = record {
      least = λ run b. h.least run (record { by = b; out = ap (is_in b.code) (none-empty left none) });
      reached = h.reached;
    }

  -- THE EDGES OF A NODE, one after another

  pub record IsByOne (edges : List Edge) (rest : RunValue) : Type 0 where
    pub edge : Edge
    pub edge_in : Member edge edges
    pub by : GoodBy allows query known number state edge rest

  pub edges-none : (edges : List Edge) (distance : ℕ) → distance ≡ FAR → IsLeastOf (IsByOne edges) (IsByOne []) distance
  unfolding Member
  edges-none edges distance far = least-of-none (IsByOne edges) (IsByOne []) distance far (λ rest h. h.edge_in)

  pub edges-more : (edges : List Edge) (i : ℕ) (edge : Edge) (one other least : ℕ) → IsItem edges i edge → least ≡ min one other →
      IsLeastOf (IsByOne edges) (IsByOne (take i edges)) one → IsLeast (GoodBy allows query known number state edge) other →
      IsLeastOf (IsByOne edges) (IsByOne (take (i + 1) edges)) least
  unfolding Member
  edges-more edges i edge one other least item smallest h k =
      least-of-more (IsByOne edges) (IsByOne (take i edges)) (GoodBy allows query known number state edge) (IsByOne (take (i + 1) edges))
      one other least smallest
      (λ run b. elim (Member-cases b.edge (take i edges) (edge ∷ []) (subst (Member b.edge) item.next b.edge_in)) [
        | inl j ↦ inl (record { edge = b.edge; edge_in = j; by = b.by })
        | inr j ↦ elim j [
          | inl e ↦ inr (subst (λ (x : Edge). GoodBy allows query known number state x run) e b.by)
          | inr none ↦ absurd none
        ]
      ]) h (record {
        least = k.least;
        reached = λ l. let r = k.reached l in (r.0, record { edge = edge; edge_in = item.member; by = r.1 }, r.2);
      })

  -- a run from the node on asks its module too
  pub edges-all : (edges some : List Edge) (distance next : ℕ) → some ≡ edges → next ≡ min (distance + 1) FAR →
      IsLeastOf (IsByOne edges) (IsByOne some) distance → IsDistance allows query (flat_map (walks_by known number) edges) state next
  edges-all edges some distance next are is h = record {
    least = λ run good.
        let b = by-edges allows query known number state edges run good in
        let size : length run.steps ≡ length b.rest.steps + 1 = ap (λ (r : RunValue). length r.steps) b.is_run ∙ omega arith in
        let one : IsByOne some b.rest = record { edge = b.edge; edge_in = subst (Member b.edge) (sym are) b.edge_in; by = b.by } in
        omega (arith, size, is, h.least b.rest one);
    reached = λ l.
        let r = h.reached (omega (arith, is, l)) in
        let b = r.1 in
        let run = after_answer number b.by.code r.0 in
        let size : length run.steps ≡ length r.0.steps + 1 = omega arith in
        (run, by-edge allows query known number state edges b.edge r.0 b.by b.edge_in, omega (arith, size, r.2, is, l));
  }

-- THE DISTANCES OF ONE MORE NODE

pub distances-more : (allows : Allowance) (query : Query) (known : List (List PathValue)) (far more : List (List ℕ)) (one : List ℕ) →
    more ≡ far ++ one ∷ [] → AreDistances allows query known far →
    ((state : ℕ) → state ≤ first_state query → IsDistance allows query (slice_index_or known (length far) []) state (slice_index_or one state 0)) →
    AreDistances allows query known more
distances-more allows query known far more one are h k index state within low =
    let long : length more ≡ length far + 1 = ap length are ∙ length-append far (one ∷ []) in
    elim (cases_lt index (length far)) [
      | inl l ↦ subst (λ (ds : List ℕ). IsDistance allows query (slice_index_or known index []) state (slice_index_or ds state 0))
          (sym (ap (λ (x : List (List ℕ)). slice_index_or x index []) are ∙ get_or-append far (one ∷ []) [] index l)) (h index state l low)
      | inr l ↦
          let at : index ≡ length far = omega (arith, within, long, l) in
          subst (λ (ds : List ℕ). IsDistance allows query (slice_index_or known index []) state (slice_index_or ds state 0))
          (sym (ap (λ (x : List (List ℕ)). slice_index_or x index []) are ∙ ap (λ (i : ℕ). slice_index_or (far ++ one ∷ []) i []) at
          ∙ get_or-append_seam far one [] []))
          (subst (λ (i : ℕ). IsDistance allows query (slice_index_or known i []) state (slice_index_or one state 0)) (sym at) (k state low))
    ]

-- THE STATES OF A NODE, one after another

pub states-more : (P : ℕ → ℕ → Type 0) (distances : List ℕ) (i distance : ℕ) → i < length distances →
    ((state : ℕ) → state < i → P state (slice_index_or distances state 0)) → P i distance →
    (state : ℕ) → state < i + 1 → P state (slice_index_or (slice_set distances i distance) state 0)
states-more P distances i distance within before here state low =
    elim (cases_lt state i) [
      | inl l ↦
          let other : state ≢ i = omega arith in
          subst (P state) (sym (get_or-set_other distances i state distance 0 other)) (before state l)
      | inr l ↦
          let same : state ≡ i = omega (arith, l, low) in
          subst (λ (s : ℕ). P s (slice_index_or (slice_set distances i distance) s 0)) (sym same)
          (subst (P i) (sym (get_or-set_same distances i distance 0 within)) here)
    ]
