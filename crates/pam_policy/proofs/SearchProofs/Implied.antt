-- What the definitions imply.
use Rattle.std.proofs.Common.{◌≡◌, ℕ, ◌+◌, ◌≤◌, true, List, [], ◌∷◌, inl, inr, sym, ◌∙◌, ap, subst, arith, suc}
use Rattle.std.specs.Prelude.{All}
use Rattle.pam_codes.specs.Set.{is_in}
use Rattle.pam_dispatch.specs.Runs.{Ask}
use Rattle.pam_graph.specs.declared.node.Edge.{Edge}
use Rattle.pam_graph.specs.Order.{LeastRise}
use Rattle.pam_paths.specs.Classes.{class_of, least}
use Rattle.pam_paths.proofs.Alike.{class-same, of_class}
use Rattle.pam_paths.proofs.Sharing.{Member-is_in}
use Rattle.pam_text.specs.Members.{Member}
use Rattle.pam_policy.specs.declared.search.run.Step.{Step}
use Rattle.pam_policy.specs.search.Laws.{MoreAllowedFinds, OneWitness}
use Rattle.pam_policy.specs.search.Runs.{ComesBefore, rank}

-- CLASSES OF THE EDGES OF A NODE

-- the least codes of edges tell them apart
rise-above : (low high : ℕ) (edges : List Edge) (edge : Edge) → LeastRise low high edges → Member edge edges → low ≤ least edge.class
unfolding Member LeastRise
rise-above low high [] edge h i = absurd i
rise-above low high (x ∷ edges) edge h (inl e) = omega (arith, h.0, ap (λ (y : Edge). least y.class) e)
rise-above low high (x ∷ edges) edge h (inr i) = omega (arith, h.0, rise-above (least x.class + 1) high edges edge h.1 i)

rise-one : (low high : ℕ) (edges : List Edge) (one other : Edge) → LeastRise low high edges → Member one edges → Member other edges →
    least one.class ≡ least other.class → one ≡ other
unfolding Member LeastRise
rise-one low high [] one other h i j e = absurd i
rise-one low high (x ∷ edges) one other h (inl a) (inl b) e = a ∙ sym b
rise-one low high (x ∷ edges) one other h (inl a) (inr j) e =
    absurd (omega (arith, e, rise-above (least x.class + 1) high edges other h.1 j, ap (λ (y : Edge). least y.class) a))
rise-one low high (x ∷ edges) one other h (inr i) (inl b) e =
    absurd (omega (arith, e, rise-above (least x.class + 1) high edges one h.1 i, ap (λ (y : Edge). least y.class) b))
rise-one low high (x ∷ edges) one other h (inr i) (inr j) e = rise-one (least x.class + 1) high edges one other h.1 i j e

pub all-member : {X : Type 0} (P : X → Type 0) (xs : List X) (x : X) → All P xs → Member x xs → P x
unfolding Member
all-member P [] x h i = absurd i
all-member P (y ∷ xs) x h (inl e) = subst P (sym e) (h 0 y (omega arith))
all-member P (y ∷ xs) x h (inr i) = all-member P xs x (λ k d l. h (suc k) d (omega (arith, l))) i

-- no answer is in two classes of one module as it is asked
pub apart-at : (ask : Ask) (low high : ℕ) (edges : List Edge) → LeastRise low high edges →
    ((edge : Edge) → Member edge edges → (code : ℕ) × (edge.class ≡ class_of ask code)) → (one other : Edge) → Member one edges → Member other edges →
    (code : ℕ) → is_in code one.class ≡ true → is_in code other.class ≡ true → one ≡ other
apart-at ask low high edges rise class one other i j code x y =
    let a = class one i in
    let b = class other j in
    let from = (of_class ask a.0 code (Member-is_in (class_of ask a.0) code (subst (λ (c : List ℕ). is_in code c ≡ true) a.1 x))).1 in
    let to = (of_class ask b.0 code (Member-is_in (class_of ask b.0) code (subst (λ (c : List ℕ). is_in code c ≡ true) b.1 y))).1 in
    rise-one low high edges one other rise i j (ap least (a.1 ∙ class-same ask a.0 b.0 (from ∙ sym to) ∙ sym b.1))

-- WHAT IS FOUND

pub more-allowed : MoreAllowedFinds
more-allowed less more items query run fewer f = record {
  answers = f.answers;
  allowed = λ m from to. let a = f.allowed m from to in (a.0, fewer m (f.answers m) from to a.1);
  does = f.does;
  is_run = f.is_run;
}

pub both-before : (steps others : List Step) → ComesBefore steps others → ComesBefore others steps → ⊥
unfolding ComesBefore
both-before [] others h k = h
both-before (step ∷ steps) [] h k = h
both-before (step ∷ steps) (other ∷ others) (inl l) (inl m) = omega (arith, l, m)
both-before (step ∷ steps) (other ∷ others) (inl l) (inr m) = omega (arith, l, ap (λ (s : Step). rank s.code) m.0)
both-before (step ∷ steps) (other ∷ others) (inr l) (inl m) = omega (arith, m, ap (λ (s : Step). rank s.code) l.0)
both-before (step ∷ steps) (other ∷ others) (inr l) (inr m) = both-before steps others l.1 m.1

pub one-witness : OneWitness
one-witness allows items query one other w v =
    let few = w.fewest other v.found in
    let many = v.fewest one w.found in
    elim (w.first other v.found (omega (arith, few, many))) [
      | inl e ↦ e
      | inr before ↦ elim (v.first one w.found (omega (arith, few, many))) [
        | inl e ↦ sym e
        | inr after ↦ absurd (both-before one.steps other.steps before after)
      ]
    ]
