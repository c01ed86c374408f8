-- At which service each pair is told.
use Rattle.std.proofs.Common.{◌≡◌, ◌∙◌, ◌⊎◌, ℕ, zero, suc, Bool, true, false, cond, List, [], ◌∷◌, ◌++◌, length, slice_get, Option, Some, None}
use Rattle.std.proofs.Common.{ap, inl, inr, refl, sym}
use Rattle.std.proofs.lemmas.Bool.{eq-eqb}
use Rattle.std.proofs.lemmas.List.Elements.{All-head, All-tail}
use Rattle.std.specs.List.{All, find}
use Rattle.std.specs.Option.{option_map, option_or}
use Rattle.pam_changes.specs.Changes.{AreToldFirst, first_service, is_of_pair}
use Rattle.pam_changes.specs.inner.Finding.{TellsNew}
use Rattle.pam_changes.specs.declared.pair.StackPair.{StackPair}
use Rattle.pam_changes.specs.declared.stacks.ComparedStack.{ComparedStack}
use Rattle.pam_changes.specs.declared.stacks.StackChange.{StackChange}
use Rattle.pam_changes.specs.declared.stacks.StackChange.TheVariants as changes

pub some-is : {X : Type 0} (x y : X) → Some x ≡ Some y → x ≡ y
some-is x y e = cc

pub none-is : {X : Type 0} (x : X) → None ≡ Some x → ⊥
none-is x e = cc

-- no pair is added
pub tells-none : (pairs : List StackPair) (service : ℕ) (change : StackChange) → TellsNew pairs service change pairs
unfolding TellsNew
tells-none pairs service change k pair at = inl at

-- a pair of one more is one of them, or the last
abbrev LastOr : List StackPair → StackPair → ℕ → StackPair → Type 0
LastOr pairs last k pair = (slice_get pairs k ≡ Some pair) ⊎ ((slice_get pairs k ≡ None) × (length pairs ≡ k) × (last ≡ pair))

last-or : (pairs : List StackPair) (last : StackPair) (k : ℕ) (pair : StackPair) → slice_get (pairs ++ last ∷ []) k ≡ Some pair → LastOr pairs last k pair
last-or [] last zero pair at = inr (refl, refl, some-is last pair at)
last-or [] last (suc k) pair at = absurd (none-is pair at)
last-or (p ∷ pairs) last zero pair at = inl at
last-or (p ∷ pairs) last (suc k) pair at = elim (last-or pairs last k pair at) [
  | inl there ↦ inl there
  | inr new ↦ inr (new.0, ap suc new.1, new.2)
]

-- one pair is added
pub tells-one : (before after : List StackPair) (pair : StackPair) (k : ℕ) → after ≡ before ++ pair ∷ [] → k ≡ length before →
    (service : ℕ) → pair.service ≡ service → TellsNew before service (changes.Differs k) after
unfolding TellsNew
tells-one before after pair k pushed end service is j p at =
    elim (last-or before pair j p (sym (ap (λ (l : List StackPair). slice_get l j) pushed) ∙ at)) [
      | inl there ↦ inl there
      | inr new ↦ inr (new.0, ap (λ (n : ℕ). changes.Differs n) (end ∙ new.1), sym (ap (λ (q : StackPair). q.service) new.2) ∙ is)
    ]

-- without pairs there is nothing to tell
pub told-nothing : (stacks : List ComparedStack) (pairs : List StackPair) → pairs ≡ [] → AreToldFirst stacks pairs
unfolding AreToldFirst
told-nothing stacks pairs none k pair at = absurd (none-is pair (sym (ap (λ (l : List StackPair). slice_get l k) none) ∙ at))

first-append : (k : ℕ) (xs ys : List ComparedStack) → first_service k (xs ++ ys) ≡ option_or (first_service k xs) (first_service k ys)
first-append k [] ys = refl
first-append k (x ∷ xs) ys = by (is_of_pair k x.change) (first-append k xs ys)
  where
    by : (b : Bool) → first_service k (xs ++ ys) ≡ option_or (first_service k xs) (first_service k ys) →
        option_map (λ s. s.service) (cond b (Some x) (find (λ s. is_of_pair k s.change) (xs ++ ys))) ≡
        option_or (option_map (λ s. s.service) (cond b (Some x) (find (λ s. is_of_pair k s.change) xs))) (first_service k ys)
    by true e = refl
    by false e = e

first-none : (k : ℕ) (stacks : List ComparedStack) → All (λ s. is_of_pair k s.change ≡ false) stacks → first_service k stacks ≡ None
first-none k [] all = refl
first-none k (s ∷ stacks) all =
    let P : ComparedStack → Type 0 = λ t. is_of_pair k t.change ≡ false in
    ap (λ (b : Bool). option_map (λ t. t.service) (cond b (Some s) (find (λ t. is_of_pair k t.change) stacks))) (All-head P s stacks all)
    ∙ first-none k stacks (All-tail P s stacks all)

first-new : (k : ℕ) (s : ComparedStack) → s.change ≡ changes.Differs k → first_service k (s ∷ []) ≡ Some s.service
first-new k s is =
    ap (λ (c : StackChange). option_map (λ t. t.service) (cond (is_of_pair k c) (Some s) None)) is
    ∙ ap (λ (b : Bool). option_map (λ t. t.service) (cond b (Some s) None)) (eq-eqb k k refl)

-- one more stack
pub told-more : (stacks : List ComparedStack) (before after : List StackPair) (s : ComparedStack) →
    ((k : ℕ) → slice_get before k ≡ None → All (λ t. is_of_pair k t.change ≡ false) stacks) → AreToldFirst stacks before →
    TellsNew before s.service s.change after → AreToldFirst (stacks ++ s ∷ []) after
unfolding AreToldFirst TellsNew
told-more stacks before after s none told new k pair at = elim (new k pair at) [
  | inl there ↦
      first-append k stacks (s ∷ []) ∙ ap (λ (o : Option ℕ). option_or o (first_service k (s ∷ []))) (told k pair there)
  | inr is ↦
      first-append k stacks (s ∷ [])
      ∙ ap (λ (o : Option ℕ). option_or o (first_service k (s ∷ []))) (first-none k stacks (none k is.0))
      ∙ first-new k s is.1
      ∙ sym (ap (λ (n : ℕ). Some n) is.2)
]
