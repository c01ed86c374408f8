-- The walk of two stacks, one step longer.
use Rattle.std.proofs.Common.{◌≡◌, ◌<◌, ◌∙◌, ◌&&◌, ℕ, zero, suc, Bool, true, false, cond, eqb, List, [], ◌∷◌, ◌++◌, Option, Some, None}
use Rattle.std.proofs.Common.{filter, ap, arith, refl, sym, subst}
use Rattle.std.specs.Prelude.{not, slice_get}
use Rattle.std.proofs.lemmas.Bool.{and_parts}
use Rattle.pam_codes.specs.Set.{is_in}
use Rattle.pam_dispatch.specs.declared.flat_item.FlatItem.{FlatItem}
use Rattle.pam_dispatch.specs.declared.place.Place.{Place}
use Rattle.pam_dispatch.specs.declared.step.Outcome.{Outcome}
use Rattle.pam_dispatch.specs.Flat.{modules_of, rest_of, runs_of}
use Rattle.pam_dispatch.specs.Runs.{Assignment, Runs, ends, asks, after_answer, asked_module, outcome_in}
use Rattle.pam_compare.specs.declared.held.HeldAnswer.{HeldAnswer}
use Rattle.pam_compare.specs.declared.naming.Naming.{Naming}
use Rattle.pam_compare.specs.declared.nodes.Nodes.{Nodes}
use Rattle.pam_compare.specs.declared.nodes.Way.{Way}
use Rattle.pam_compare.specs.declared.situation.Situation.{Situation}
use Rattle.pam_compare.specs.declared.turn.Turn.{Turn}
use Rattle.pam_compare.specs.declared.turn.Turn.TheVariants.{Old, New, Both}
use Rattle.pam_compare.specs.Names.{by_name}
use Rattle.pam_compare.specs.Walks.{HaveOneOutcome, IsAfter, IsClass, IsNextOf, held_after, is_ahead, new_after}
use Rattle.pam_compare.specs.Walks.{old_after, tells, turn_code, turn_name, turn_of}
use Rattle.pam_compare.specs.inner.Held.{AreAhead}
use Rattle.pam_compare.specs.inner.Nodes.{IsAt, Keeps, KeepsNodes, Stop}
use Rattle.pam_compare.specs.inner.Trails.{Follows, IsTrail}
use Rattle.pam_compare.specs.inner.Turn.{AreAlike, StaysThere, first_of}
use Rattle.pam_compare.specs.inner.Ways.{step_of, IsWalkTo, IsWalkedAt}
use Rattle.pam_compare.proofs.Ahead.{filter-passes}
use Rattle.pam_compare.proofs.Classes.{one-back, one-through}
use Rattle.pam_compare.proofs.Growing.{at-kept, same-node}
use Rattle.pam_compare.proofs.Trails.{trail-kept}
use Rattle.pam_compare.proofs.Turns.{named-code}

-- CODES OF ONE CLASS

-- codes with one outcome leave the same rest of a run
one-rest : (runs : Runs) (code other : ℕ) → outcome_in runs code ≡ outcome_in runs other → after_answer runs code ≡ after_answer runs other
one-rest (ends s) code other e = refl
one-rest (asks ask next) code other e = ap (λ (o : Outcome). next o) e

pub one-alike : (turn : Turn) (left right : Runs) (code other : ℕ) → HaveOneOutcome turn left right code other → AreAlike turn left right code other
one-alike (Old i) left right code other e = (one-rest left code other e, refl)
one-alike (New j) left right code other e = (refl, one-rest right code other e)
one-alike (Both i j) left right code other e = (one-rest left code other e.0, one-rest right code other e.1)

-- each code of a class has that class
pub class-other : (names : List ℕ) (possible : List (List ℕ)) (left right : Runs) (held : List HeldAnswer) (turn : Turn) (code other : ℕ) (class : List ℕ) →
    IsClass names possible left right held turn code class → is_in other class ≡ true → IsClass names possible left right held turn other class
class-other names possible left right held turn code other class is member =
    let alike = is.alike other member in
    record {
      set = is.set;
      within = is.within;
      kept = is.kept;
      alike = λ d h. one-through turn left right other code d (one-back turn left right code other alike) (is.alike d h);
      all = λ d low can leaves one. is.all d low can leaves (one-through turn left right code other d alike one);
    }

pub stays-there : (turn : Turn) (left right : Runs) (code : ℕ) →
    StaysThere turn (asked_module left) (asked_module right) (asked_module (old_after turn left code)) (asked_module (new_after turn right code))
stays-there (Old i) left right code = refl
stays-there (New j) left right code = refl
stays-there (Both i j) left right code = tt

-- WHAT IS HELD IS YET TO BE ASKED

some-is : (g h : HeldAnswer) → Some g ≡ Some h → g ≡ h
some-is g h e = cc

none-is : (h : HeldAnswer) → None ≡ Some h → ⊥
none-is h e = cc

in-append : (P : HeldAnswer → Type 0) (xs ys : List HeldAnswer) → ((i : ℕ) (h : HeldAnswer) → slice_get xs i ≡ Some h → P h) →
    ((i : ℕ) (h : HeldAnswer) → slice_get ys i ≡ Some h → P h) → (i : ℕ) (h : HeldAnswer) → slice_get (xs ++ ys) i ≡ Some h → P h
in-append P [] ys f g i h at = g i h at
in-append P (x ∷ xs) ys f g zero h at = f 0 h at
in-append P (x ∷ xs) ys f g (suc i) h at = in-append P xs ys (λ k y there. f (suc k) y there) g i h at

in-first : (P : HeldAnswer → Type 0) (test : Bool) (answer : HeldAnswer) → (test ≡ true → P answer) → (i : ℕ) (h : HeldAnswer) →
    slice_get (cond test (answer ∷ []) []) i ≡ Some h → P h
in-first P true answer f zero h at = subst P (some-is answer h at) (f refl)
in-first P true answer f (suc i) h at = absurd (none-is h at)
in-first P false answer f i h at = absurd (none-is h at)

pub held-ahead : (names : List ℕ) (count modules : ℕ) (possible : List (List ℕ)) (held : List HeldAnswer) (answer : HeldAnswer) (old new : Option ℕ) →
    AreAhead names count modules (held_after names count modules possible held answer old new) old new
unfolding AreAhead held_after
held-ahead names count modules possible held answer old new =
    let Ahead : HeldAnswer → Type 0 = λ h. is_ahead names count modules h.name old new ≡ true in
    let test : HeldAnswer → Bool = λ h. not (eqb h.name answer.name) && is_ahead names count modules h.name old new in
    in-append Ahead (cond (tells possible answer && is_ahead names count modules answer.name old new) (answer ∷ []) []) (filter test held)
    (in-first Ahead _ answer (λ e. (and_parts (tells possible answer) _ e).1))
    (λ i h at. (and_parts (not (eqb h.name answer.name)) _ (filter-passes test held i h at)).1)

-- WALKS

pub walk-begun : (old new : List FlatItem) (naming : Naming) (ways : List Way) → IsWalkTo old new naming ways 0 (runs_of old) (runs_of new) []
unfolding IsTrail IsAfter AreAhead
walk-begun old new naming ways = record {
  trail = [];
  is_trail = refl;
  after = λ a f. (refl, refl, refl);
  ahead = λ i h at. absurd (none-is h at);
}

pub walk-kept : (old new : List FlatItem) (naming : Naming) (ways more : List Way) (k : ℕ) (left right : Runs) (held : List HeldAnswer) → Keeps ways more →
    IsWalkTo old new naming ways k left right held → IsWalkTo old new naming more k left right held
unfolding Keeps
walk-kept old new naming ways more k left right held keeps w =
    record { trail = w.trail; is_trail = trail-kept ways more k w.trail keeps w.is_trail; after = w.after; ahead = w.ahead }

module _ (old new : List FlatItem) (naming : Naming) (ways more : List Way) (left right : Runs) (held after : List HeldAnswer) (turn : Turn) (w : Way) (k : ℕ)
    (walk : IsWalkTo old new naming ways w.parent left right held)
    (order : turn_of naming.names.items (first_of naming.ranks) (asked_module left) (asked_module right) ≡ Some turn)
    (class : IsClass naming.names.items naming.possible.items left right held turn w.code w.class)
    (name : w.name ≡ turn_name naming.names.items turn) (keeps : Keeps ways more) (at : slice_get more k ≡ Some w) (before : w.parent < k)
    (held_is : after ≡ held_after naming.names.items (modules_of old) (modules_of new) naming.possible.items held (step_of w)
    (asked_module (old_after turn left w.code)) (asked_module (new_after turn right w.code))) where
  walk-trail : IsTrail more k (w ∷ walk.trail)
  unfolding IsTrail Keeps
  walk-trail = (omega (arith, before), at, before, trail-kept ways more w.parent walk.trail keeps walk.is_trail)

  walk-next : (a : Assignment) → is_in (a w.name) w.class ≡ true →
      IsNextOf old new naming.names.items naming.possible.items (first_of naming.ranks) a (by_name naming.names.items a) left right held (step_of w)
      (old_after turn left w.code) (new_after turn right w.code) after
  walk-next a member =
      let names = naming.names.items in
      let code : ℕ = turn_code turn a (by_name names a) in
      let is : a w.name ≡ code = ap a name ∙ sym (named-code names turn a) in
      let here : is_in code w.class ≡ true = subst (λ (n : ℕ). is_in n w.class ≡ true) is member in
      let alike = one-alike turn left right w.code code (class.alike code here) in
      record {
        turn = turn;
        turn_is = order;
        name_is = name;
        class_is = class-other names naming.possible.items left right held turn w.code code w.class class here;
        left_is = alike.0;
        right_is = alike.1;
        held_is = held_is;
      }

  pub walk-longer : IsWalkTo old new naming more k (old_after turn left w.code) (new_after turn right w.code) after
  unfolding Follows IsAfter
  walk-longer = record {
    trail = w ∷ walk.trail;
    is_trail = walk-trail;
    after = λ a f. (left, right, held, walk.after a f.1, walk-next a f.0);
    ahead = subst (λ (l : List HeldAnswer). AreAhead naming.names.items (modules_of old) (modules_of new) l (asked_module (old_after turn left w.code))
        (asked_module (new_after turn right w.code))) (sym held_is)
        (held-ahead naming.names.items (modules_of old) (modules_of new) naming.possible.items held _ _ _);
  }

-- NODES

-- the walk to a node that has a situation
pub walk-at : (old new : List FlatItem) (naming : Naming) (nodes : Nodes) (k : ℕ) (s : Situation) (n : Stop) →
    IsWalkedAt old new naming nodes k s → IsAt nodes s n →
    IsWalkTo old new naming nodes.ways.items k (rest_of old n.old) (rest_of new n.new) n.held
walk-at old new naming nodes k s n r at =
    let same = same-node nodes s r.node n r.is_at at in
    subst (λ (l : List HeldAnswer). IsWalkTo old new naming nodes.ways.items k (rest_of old n.old) (rest_of new n.new) l) same.2
    (subst (λ (p : Place). IsWalkTo old new naming nodes.ways.items k (rest_of old n.old) (rest_of new p) r.node.held) same.1
    (subst (λ (p : Place). IsWalkTo old new naming nodes.ways.items k (rest_of old p) (rest_of new r.node.new) r.node.held) same.0 r.walk))

pub walked-kept : (old new : List FlatItem) (naming : Naming) (before after : Nodes) (k : ℕ) (s : Situation) → KeepsNodes before after →
    IsWalkedAt old new naming before k s → IsWalkedAt old new naming after k s
walked-kept old new naming before after k s keeps r = record {
  node = r.node;
  is_at = at-kept before after s r.node keeps r.is_at;
  walk = walk-kept old new naming _ _ k _ _ _ keeps.ways r.walk;
}
