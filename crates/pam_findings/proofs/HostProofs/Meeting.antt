-- The stacks that meet a problem, one after another.
use Rattle.std.proofs.Common.{◌≡◌, ◌⊎◌, ◌↔◌, ℕ, ◌+◌, ◌<◌, ◌≤◌, Bool, true, cond, List, [], ◌∷◌, ◌++◌, refl, sym, ◌∙◌, ap, subst, inl, inr, arith}
use Rattle.std.proofs.Common.{Option, Some, None, slice_get, length-append}
use Rattle.std.specs.Prelude.{◌==◌, unwrap_or}
use Rattle.std.proofs.lemmas.Bool.{cases_Bool, eqb-true, eq-eqb, false≢true}
use Rattle.pam_conf.specs.declared.rule.Kind.{Kind}
use Rattle.pam_conf.specs.declared.rule.Kind.TheVariants.{Auth, Account, Password, Session}
use Rattle.pam_text.specs.Members.{Member}
use Rattle.pam_findings.specs.host.inner.Meeting.{Changes, MetSoFar, also_met, met_again, met_anew}
use Rattle.pam_findings.specs.host.Met.{AreMet, IsMetByNone, RiseFrom}
use Rattle.pam_facts.specs.Kinds.{has_kind, no_kinds, with_kind}
use Rattle.pam_facts.specs.declared.kinds.Kinds.{Kinds}
use Rattle.pam_findings.specs.declared.host.met.Met.{Met}

-- KINDS

pub has-with : (kind : Kind) (kinds : Kinds) (other : Kind) → (has_kind other (with_kind kind kinds) ≡ true) ↔ ((other ≡ kind) ⊎ (has_kind other kinds ≡ true))
has-with Auth kinds Auth = (λ h. inl refl, λ h. refl)
has-with Auth kinds Account = (λ h. inr h, λ h. elim h [ inl e ↦ absurd cc | inr t ↦ t ])
has-with Auth kinds Password = (λ h. inr h, λ h. elim h [ inl e ↦ absurd cc | inr t ↦ t ])
has-with Auth kinds Session = (λ h. inr h, λ h. elim h [ inl e ↦ absurd cc | inr t ↦ t ])
has-with Account kinds Auth = (λ h. inr h, λ h. elim h [ inl e ↦ absurd cc | inr t ↦ t ])
has-with Account kinds Account = (λ h. inl refl, λ h. refl)
has-with Account kinds Password = (λ h. inr h, λ h. elim h [ inl e ↦ absurd cc | inr t ↦ t ])
has-with Account kinds Session = (λ h. inr h, λ h. elim h [ inl e ↦ absurd cc | inr t ↦ t ])
has-with Password kinds Auth = (λ h. inr h, λ h. elim h [ inl e ↦ absurd cc | inr t ↦ t ])
has-with Password kinds Account = (λ h. inr h, λ h. elim h [ inl e ↦ absurd cc | inr t ↦ t ])
has-with Password kinds Password = (λ h. inl refl, λ h. refl)
has-with Password kinds Session = (λ h. inr h, λ h. elim h [ inl e ↦ absurd cc | inr t ↦ t ])
has-with Session kinds Auth = (λ h. inr h, λ h. elim h [ inl e ↦ absurd cc | inr t ↦ t ])
has-with Session kinds Account = (λ h. inr h, λ h. elim h [ inl e ↦ absurd cc | inr t ↦ t ])
has-with Session kinds Password = (λ h. inr h, λ h. elim h [ inl e ↦ absurd cc | inr t ↦ t ])
has-with Session kinds Session = (λ h. inl refl, λ h. refl)

pub has-none : (kind : Kind) → has_kind kind no_kinds ≡ true → ⊥
has-none Auth h = false≢true h
has-none Account h = false≢true h
has-none Password h = false≢true h
has-none Session h = false≢true h

with-with : (kind : Kind) (kinds : Kinds) → with_kind kind (with_kind kind kinds) ≡ with_kind kind kinds
with-with Auth kinds = refl
with-with Account kinds = refl
with-with Password kinds = refl
with-with Session kinds = refl

-- MEMBERS

pub to_front : {X : Type 0} (x : X) (xs ys : List X) → Member x xs → Member x (xs ++ ys)
unfolding Member
to_front x [] ys h = absurd h
to_front x (y ∷ xs) ys (inl e) = inl e
to_front x (y ∷ xs) ys (inr h) = inr (to_front x xs ys h)

pub to_back : {X : Type 0} (x : X) (xs ys : List X) → Member x ys → Member x (xs ++ ys)
unfolding Member
to_back x [] ys h = h
to_back x (y ∷ xs) ys h = inr (to_back x xs ys h)

pub from_both : {X : Type 0} (x : X) (xs ys : List X) → Member x (xs ++ ys) → Member x xs ⊎ Member x ys
unfolding Member
from_both x [] ys h = inr h
from_both x (y ∷ xs) ys (inl e) = inl (inl e)
from_both x (y ∷ xs) ys (inr h) = elim (from_both x xs ys h) [ inl k ↦ inl (inr k) | inr k ↦ inr k ]

pub from_one : {X : Type 0} (x y : X) → Member x (y ∷ []) → x ≡ y
unfolding Member
from_one x y (inl e) = e
from_one x y (inr h) = absurd h

pub to_one : {X : Type 0} (x y : X) → x ≡ y → Member x (y ∷ [])
unfolding Member
to_one x y e = inl e

-- POSITIONS

rise-push : (low service : ℕ) (positions : List ℕ) → RiseFrom low positions → ((s : ℕ) → Member s positions → s < service) → low ≤ service →
    RiseFrom low (positions ++ service ∷ [])
unfolding RiseFrom Member
rise-push low service [] h below le = (le, tt)
rise-push low service (p ∷ ps) h below le =
    (h.0, rise-push (p + 1) service ps h.1 (λ s i. below s (inr i)) (omega (arith, below p (inl refl))))

first-push : (positions : List ℕ) (service first : ℕ) → slice_get positions 0 ≡ Some first → slice_get (positions ++ service ∷ []) 0 ≡ Some first
first-push [] service first h = absurd cc
first-push (p ∷ ps) service first h = h

second-push : (positions : List ℕ) (service first : ℕ) (second : Option ℕ) → slice_get positions 0 ≡ Some first → slice_get positions 1 ≡ second →
    slice_get (positions ++ service ∷ []) 1 ≡ Some (unwrap_or second service)
second-push [] service first second h k = absurd cc
second-push (p ∷ []) service first second h k = ap (λ (o : Option ℕ). Some (unwrap_or o service)) k
second-push (p ∷ q ∷ ps) service first second h k = ap (λ (o : Option ℕ). Some (unwrap_or o service)) k

-- ONE MORE STACK

module _ (service : ℕ) (kind : Kind) (P Q : ℕ → Kind → Type 0) (upto : (s : ℕ) (k : Kind) → P s k → s ≤ service)
    (one_more : (s : ℕ) (k : Kind) → Q s k ↔ (P s k ⊎ ((s ≡ service) × (k ≡ kind)))) where
  it : Q service kind
  it = (one_more service kind).1 (inr (refl, refl))

  more-kinds : (kinds : Kinds) → ((k : Kind) → (has_kind k kinds ≡ true) ↔ ((s : ℕ) × P s k)) →
      (k : Kind) → (has_kind k (with_kind kind kinds) ≡ true) ↔ ((s : ℕ) × Q s k)
  more-kinds kinds h k = (
    λ t. elim ((has-with kind kinds k).0 t) [
      | inl e ↦ (service, (one_more service k).1 (inr (refl, e)))
      | inr u ↦ let p = (h k).0 u in (p.0, (one_more p.0 k).1 (inl p.1))
    ],
    λ q. (has-with kind kinds k).1 (elim ((one_more q.0 k).0 q.1) [ inl p ↦ inr ((h k).1 (q.0, p)) | inr e ↦ inl e.1 ]),
  )

  first-met : IsMetByNone P → AreMet Q (also_met service kind None)
  unfolding Member RiseFrom
  first-met none =
      let members : (s : ℕ) → Member s (service ∷ []) ↔ ((k : Kind) × Q s k) =
      λ s. (
        λ i. elim i [ inl e ↦ (kind, (one_more s kind).1 (inr (e, refl))) | inr n ↦ absurd n ],
        λ q. elim ((one_more s q.0).0 q.1) [ inl p ↦ absurd (none s q.0 p) | inr e ↦ inl e.0 ],
      ) in
      record {
        kinds = more-kinds no_kinds (λ k. (λ t. absurd (has-none k t), λ p. absurd (none p.0 k p.1)));
        positions = service ∷ [];
        rising = (omega arith, tt);
        members = members;
        first = refl;
        second = refl;
        last = inl refl;
        latest = λ s i. elim i [ inl e ↦ omega (arith, e) | inr n ↦ absurd n ];
        count = refl;
      }

  same-met : (met : Met) → met.last ≡ service → AreMet P met → AreMet Q (met_again kind met)
  same-met met e h = record {
    kinds = more-kinds met.kinds h.kinds;
    positions = h.positions;
    rising = h.rising;
    members = λ s. (
      λ i. let p = (h.members s).0 i in (p.0, (one_more s p.0).1 (inl p.1)),
      λ q. elim ((one_more s q.0).0 q.1) [
        | inl p ↦ (h.members s).1 (q.0, p)
        | inr r ↦ subst (λ n. Member n h.positions) (e ∙ sym r.0) h.last
      ],
    );
    first = h.first;
    second = h.second;
    last = h.last;
    latest = h.latest;
    count = h.count;
  }

  new-met : (met : Met) → (met.last ≡ service → ⊥) → AreMet P met → AreMet Q (met_anew service kind met)
  new-met met apart h =
      let ps : List ℕ = h.positions in
      let at_last : (k : Kind) × P met.last k = (h.members met.last).0 h.last in
      let upto_last : met.last ≤ service = upto met.last at_last.0 at_last.1 in
      let below : (s : ℕ) → Member s ps → s < service = λ s i. omega (arith, upto_last, apart, h.latest s i) in
      let back : (s : ℕ) → Member s (ps ++ service ∷ []) → Member s ps ⊎ (s ≡ service) =
      λ s i. elim (from_both s ps (service ∷ []) i) [ inl j ↦ inl j | inr j ↦ inr (from_one s service j) ] in
      record {
        kinds = more-kinds met.kinds h.kinds;
        positions = ps ++ service ∷ [];
        rising = rise-push 0 service ps h.rising below (omega arith);
        members = λ s. (
          λ i. elim (back s i) [
            | inl j ↦ let p = (h.members s).0 j in (p.0, (one_more s p.0).1 (inl p.1))
            | inr e ↦ (kind, (one_more s kind).1 (inr (e, refl)))
          ],
          λ q. elim ((one_more s q.0).0 q.1) [
            | inl p ↦ to_front s ps (service ∷ []) ((h.members s).1 (q.0, p))
            | inr r ↦ to_back s ps (service ∷ []) (to_one s service r.0)
          ],
        );
        first = first-push ps service met.first h.first;
        second = second-push ps service met.first met.second h.first h.second;
        last = to_back service ps (service ∷ []) (to_one service service refl);
        latest = λ s i. elim (back s i) [ inl j ↦ omega (arith, below s j) | inr e ↦ omega (arith, e) ];
        count = omega (arith, h.count, length-append ps (service ∷ []));
      }

  -- with one more stack
  pub one-more-met : (old : Option Met) → MetSoFar P old → AreMet Q (also_met service kind old)
  one-more-met None h = first-met h
  one-more-met (Some met) h =
      let Is : Bool → Type 0 = λ t. AreMet Q (cond t (met_again kind met) (met_anew service kind met)) in
      elim (cases_Bool (met.last == service)) [
        | inl t ↦ subst Is (sym t) (same-met met (eqb-true _ _ t) h)
        | inr f ↦ subst Is (sym f) (new-met met (λ e. false≢true (sym f ∙ eq-eqb _ _ e)) h)
      ]

-- the same stacks once more
module _ (P Q : ℕ → Kind → Type 0) (same : (s : ℕ) (k : Kind) → P s k ↔ Q s k) where
  pub alike-met : (old : Option Met) → MetSoFar P old → MetSoFar Q old
  alike-met None none = λ s k q. none s k ((same s k).1 q)
  alike-met (Some met) h = record {
    kinds = λ k. (λ t. let p = (h.kinds k).0 t in (p.0, (same p.0 k).0 p.1), λ q. (h.kinds k).1 (q.0, (same q.0 k).1 q.1));
    positions = h.positions;
    rising = h.rising;
    members = λ s. (λ i. let p = (h.members s).0 i in (p.0, (same s p.0).0 p.1), λ q. (h.members s).1 (q.0, (same s q.0).1 q.1));
    first = h.first;
    second = h.second;
    last = h.last;
    latest = h.latest;
    count = h.count;
  }

-- TWICE IS ONCE

settled : (service : ℕ) (kind : Kind) (met : Met) → met.last ≡ service → with_kind kind met.kinds ≡ met.kinds → also_met service kind (Some met) ≡ met
settled service kind met e h =
    ap (λ b. cond b (met_again kind met) (met_anew service kind met)) (eq-eqb _ _ e)
    ∙ ap (λ (kinds : Kinds). record met { kinds = kinds }) h

pub also-twice : (service : ℕ) (kind : Kind) (old : Option Met) → also_met service kind (Some (also_met service kind old)) ≡ also_met service kind old
also-twice service kind None = settled service kind (also_met service kind None) refl (with-with kind no_kinds)
also-twice service kind (Some met) =
    let again : Met = met_again kind met in
    let anew : Met = met_anew service kind met in
    let Is : Bool → Type 0 = λ t. also_met service kind (Some (cond t again anew)) ≡ cond t again anew in
    elim (cases_Bool (met.last == service)) [
      | inl t ↦ subst Is (sym t) (settled service kind again (eqb-true _ _ t) (with-with kind met.kinds))
      | inr f ↦ subst Is (sym f) (settled service kind anew refl (with-with kind met.kinds))
    ]

-- ONE CHANGE AND THEN ANOTHER

pub both-change : {X : Type 0} (f : Option X → X) → ((o : Option X) → f (Some (f o)) ≡ f o) → (A B : Type 0) (o p q : Option X) →
    Changes A (f o) o p → Changes B (f p) p q → Changes (A ⊎ B) (f o) o q
both-change f twice A B o p q (inl h) (inl k) = inl (inl h.0, k.1 ∙ ap (λ x. Some (f x)) h.1 ∙ ap (λ x. Some x) (twice o))
both-change f twice A B o p q (inl h) (inr k) = inl (inl h.0, k.1 ∙ h.1)
both-change f twice A B o p q (inr h) (inl k) = inl (inr k.0, k.1 ∙ ap (λ x. Some (f x)) h.1)
both-change f twice A B o p q (inr h) (inr k) = inr (λ w. elim w [ inl a ↦ h.0 a | inr b ↦ k.0 b ], k.1 ∙ h.1)

pub iff-change : {X : Type 0} (A B : Type 0) (v : X) (o p : Option X) → (A ↔ B) → Changes A v o p → Changes B v o p
iff-change A B v o p same (inl h) = inl (same.0 h.0, h.1)
iff-change A B v o p same (inr h) = inr (λ b. h.0 (same.1 b), h.1)

pub as-change : {X : Type 0} (A : Type 0) (v w : X) (o p : Option X) → (A → v ≡ w) → Changes A v o p → Changes A w o p
as-change A v w o p same (inl h) = inl (h.0, h.1 ∙ ap (λ x. Some x) (same h.0))
as-change A v w o p same (inr h) = inr h

pub no-change : {X : Type 0} (A : Type 0) (v : X) (o : Option X) → (A → ⊥) → Changes A v o o
no-change A v o none = inr (none, refl)
