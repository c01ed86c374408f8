-- The first of some choices.
use Rattle.std.proofs.Common.{◌≡◌, ℕ, ◌<◌, ◌⊎◌, true, false, List, [], ◌∷◌, inl, inr, Option, None, Some, ap, ◌∙◌, refl, cond, arith, subst, sym}
use Rattle.std.proofs.Common.{◌+◌, drop, slice_get, take}
use Rattle.std.proofs.lemmas.Bool.{cases_lt, false≢true, le-ltb, lt-ltb}
use Rattle.pam_codes.specs.Set.{is_in}
use Rattle.pam_graph.specs.declared.node.Edge.{Edge}
use Rattle.pam_graph.specs.declared.node.Target.{Target}
use Rattle.pam_graph.specs.Walks.{walks_to}
use Rattle.pam_paths.specs.Known.{may_answer}
use Rattle.pam_paths.specs.Paths.{PathValue}
use Rattle.pam_paths.proofs.Listings.{Member-cases}
use Rattle.pam_paths.proofs.Sharing.{first-in, none-empty}
use Rattle.pam_text.specs.Members.{Member}
use Rattle.pam_policy.specs.declared.search.distances.Search.{Search}
use Rattle.pam_policy.specs.declared.search.distances.TheConstants.{FAR}
use Rattle.pam_policy.specs.declared.search.walking.Choice.{Choice}
use Rattle.pam_policy.specs.search.inner.Choices.{IsChoice, IsChoiceAt, IsFirstChoice, IsFirstOf, SaysChoice, first_of}
use Rattle.pam_policy.specs.search.inner.Distances.{IsChosen, IsLeast}
use Rattle.pam_policy.specs.search.inner.Monitor.{after}
use Rattle.pam_policy.specs.search.inner.Searches.{IsLeastFrom}
use Rattle.pam_policy.specs.search.Runs.{RunValue, rank}
use Rattle.pam_policy.proofs.SearchProofs.Nodes.{IsItem, answers, chosen-answer, left-out}

module _ (Such One Other Both : Choice → Type 0) (cases : (choice : Choice) → Both choice → One choice ⊎ Other choice) where
  -- the first of two choices is the first of those of which either is the first
  pub first-both : (one other : Option Choice) → IsFirstOf Such One one → IsFirstOf Such Other other → IsFirstOf Such Both (first_of one other)
  first-both None None h k = λ choice b. elim (cases choice b) [ inl x ↦ h choice x | inr y ↦ k choice y ]
  first-both None (Some other) h k = (k.0, λ choice b. elim (cases choice b) [ inl x ↦ absurd (h choice x) | inr y ↦ k.1 choice y ])
  first-both (Some one) None h k = (h.0, λ choice b. elim (cases choice b) [ inl x ↦ h.1 choice x | inr y ↦ absurd (k choice y) ])
  first-both (Some one) (Some other) h k =
      elim (cases_lt (rank other.code) (rank one.code)) [
        | inl l ↦ subst (λ b. IsFirstOf Such Both (cond b (Some other) (Some one))) (sym (lt-ltb (rank other.code) (rank one.code) l))
            (k.0, λ choice b. elim (cases choice b) [ inl x ↦ omega (arith, l, h.1 choice x) | inr y ↦ k.1 choice y ])
        | inr l ↦ subst (λ b. IsFirstOf Such Both (cond b (Some other) (Some one))) (sym (le-ltb (rank other.code) (rank one.code) l))
            (h.0, λ choice b. elim (cases choice b) [ inl x ↦ h.1 choice x | inr y ↦ omega (arith, l, k.1 choice y) ])
      ]

-- of fewer choices, and of choices of which more holds
pub first-fewer : (Such Among Fewer : Choice → Type 0) → ((choice : Choice) → Fewer choice → Among choice) → (found : Option Choice) →
    IsFirstOf Such Among found → IsFirstOf Such Fewer found
first-fewer Such Among Fewer into None h = λ choice f. h choice (into choice f)
first-fewer Such Among Fewer into (Some first) h = (h.0, λ choice f. h.1 choice (into choice f))

pub first-lift : (Such Other Among : Choice → Type 0) → ((choice : Choice) → Such choice → Other choice) → (found : Option Choice) →
    IsFirstOf Such Among found → IsFirstOf Other Among found
first-lift Such Other Among to None h = h
first-lift Such Other Among to (Some first) h = (to first h.0, h.1)

-- ONE ANSWER

least-one : (Such : RunValue → Type 0) (one other : ℕ) → IsLeast Such one → IsLeast Such other → other < FAR → one ≡ other
least-one Such one other h k l =
    let r = k.reached l in
    let low = h.least r.0 r.1 in
    let s = h.reached (omega (arith, low, r.2, l)) in
    omega (arith, low, r.2, s.2, k.least s.0 s.1)

module _ (search : Search) (known : List (List PathValue)) (number state distance : ℕ) where
  module _ (code : ℕ) (target : Target) where
    abbrev At : Choice → Type 0
    At choice = IsChoiceAt search known number code state distance target choice

    pub no-next : after search.query.now number code state ≡ None → (choice : Choice) → At choice → ⊥
    no-next none choice a = let e : Some choice.state ≡ None = sym a.is_next ∙ none in let k : ⊥ = cc in k

    pub other-distance : (next found : ℕ) → after search.query.now number code state ≡ Some next → IsLeastFrom search (walks_to known target) next found →
        distance < FAR → (found ≡ distance → ⊥) → (choice : Choice) → At choice → ⊥
    other-distance next found is least below other choice a =
        let e : Some choice.state ≡ Some next = sym a.is_next ∙ is in
        let same : choice.state ≡ next = cc in
        other (least-one _ found distance least (subst (λ (s : ℕ). IsLeastFrom search (walks_to known target) s distance) same a.is_distance) below)

  -- THE ANSWERS OF AN EDGE, one after another
  module _ (edge : Edge) where
    abbrev By : Choice → Type 0
    By choice = IsChoice search known number state distance (edge ∷ []) choice

    pub record IsTakenChoice (left : List ℕ) (choice : Choice) : Type 0 where
      pub is : IsChoice search known number state distance (edge ∷ []) choice
      pub out : is_in choice.code left ≡ false

    record IsOf (code : ℕ) (choice : Choice) : Type 0 where
      pub is : IsChoice search known number state distance (edge ∷ []) choice
      pub same : choice.code ≡ code

    only : (choice : Choice) (is : By choice) → is.edge ≡ edge
    unfolding Member
    only choice is = elim is.edge_in [ inl e ↦ e | inr none ↦ absurd none ]

    pub choices-none : (left : List ℕ) → left ≡ answers (may_answer search.known.now) number edge.class → IsFirstOf By (IsTakenChoice left) None
    choices-none left is choice t =
        let chosen = subst (λ (e : Edge). IsChosen (may_answer search.known.now) number e.class choice.code) (only choice t.is) t.is.chosen in
        false≢true (sym t.out ∙ ap (is_in choice.code) is ∙ chosen-answer (may_answer search.known.now) number edge.class choice.code chosen)

    one-choice : (code : ℕ) (found : Option Choice) → IsChosen (may_answer search.known.now) number edge.class code →
        SaysChoice search known number code state distance edge.target found → IsFirstOf By (IsOf code) found
    unfolding Member
    one-choice code None chosen h = λ choice o.
        let at = subst (λ (e : Edge). IsChoiceAt search known number choice.code state distance e.target choice) (only choice o.is) o.is.at in
        h choice (subst (λ (c : ℕ). IsChoiceAt search known number c state distance edge.target choice) o.same at)
    one-choice code (Some first) chosen h = (
      record {
        edge = edge;
        edge_in = inl refl;
        chosen = subst (IsChosen (may_answer search.known.now) number edge.class) (sym h.same_code) chosen;
        at = subst (λ (c : ℕ). IsChoiceAt search known number c state distance edge.target first) (sym h.same_code) h;
      },
      λ choice o. let e = ap rank (h.same_code ∙ sym o.same) in omega (arith, e),
    )

    pub choices-more : (left rest : List ℕ) (code : ℕ) (first found new : Option Choice) → slice_get left 0 ≡ Some code → rest ≡ drop 1 left →
        ((c : ℕ) → is_in c left ≡ true → IsChosen (may_answer search.known.now) number edge.class c) → new ≡ first_of first found →
        IsFirstOf By (IsTakenChoice left) first → SaysChoice search known number code state distance edge.target found →
        IsFirstOf By (IsTakenChoice rest) new
    choices-more left rest code first found new at is may chosen h k =
        subst (IsFirstOf By (IsTakenChoice rest)) (sym chosen)
        (first-both By (IsTakenChoice left) (IsOf code) (IsTakenChoice rest)
        (λ choice t. elim (left-out left code choice.code at (ap (is_in choice.code) (sym is) ∙ t.out)) [
          | inl e ↦ inr (record { is = t.is; same = e })
          | inr out ↦ inl (record { is = t.is; out = out })
        ]) first found h (one-choice code found (may code (first-in left code at)) k))

    pub choices-all : (left : List ℕ) (first : Option Choice) → slice_get left 0 ≡ None → IsFirstOf By (IsTakenChoice left) first →
        IsFirstChoice search known number state distance (edge ∷ []) first
    choices-all left first none h =
        first-fewer By (IsTakenChoice left) By (λ choice b. record { is = b; out = ap (is_in choice.code) (none-empty left none) }) first h

  -- THE EDGES OF A NODE, one after another
  abbrev ByAll : List Edge → Choice → Type 0
  ByAll edges choice = IsChoice search known number state distance edges choice

  pub nodes-none : (edges : List Edge) → IsFirstOf (ByAll edges) (ByAll []) None
  unfolding Member
  nodes-none edges choice is = is.edge_in

  pub nodes-more : (edges : List Edge) (i : ℕ) (edge : Edge) (first found new : Option Choice) → IsItem edges i edge → new ≡ first_of first found →
      IsFirstOf (ByAll edges) (ByAll (take i edges)) first → IsFirstChoice search known number state distance (edge ∷ []) found →
      IsFirstOf (ByAll edges) (ByAll (take (i + 1) edges)) new
  unfolding Member
  nodes-more edges i edge first found new item is h k =
      subst (IsFirstOf (ByAll edges) (ByAll (take (i + 1) edges))) (sym is)
      (first-both (ByAll edges) (ByAll (take i edges)) (ByAll (edge ∷ [])) (ByAll (take (i + 1) edges))
      (λ choice b. elim (Member-cases b.edge (take i edges) (edge ∷ []) (subst (Member b.edge) item.next b.edge_in)) [
        | inl j ↦ inl (record { edge = b.edge; edge_in = j; chosen = b.chosen; at = b.at })
        | inr j ↦ inr (record { edge = b.edge; edge_in = j; chosen = b.chosen; at = b.at })
      ]) first found h
      (first-lift (ByAll (edge ∷ [])) (ByAll edges) (ByAll (edge ∷ []))
      (λ choice b. record {
        edge = b.edge;
        edge_in = subst (λ (x : Edge). Member x edges) (sym (only edge choice b)) item.member;
        chosen = b.chosen;
        at = b.at;
      }) found k))

  pub nodes-all : (edges some : List Edge) (first : Option Choice) → some ≡ edges → IsFirstOf (ByAll edges) (ByAll some) first →
      IsFirstChoice search known number state distance edges first
  nodes-all edges some first are h = subst (λ (es : List Edge). IsFirstOf (ByAll edges) (ByAll es) first) are h
