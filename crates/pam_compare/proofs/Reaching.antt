-- Ways to nodes, one step longer.
use Rattle.std.proofs.Common.{◌≡◌, ◌⊎◌, ◌<◌, ◌≤◌, ◌∙◌, ◌+◌, ℕ, true, List, [], ◌∷◌, Some, ap, arith, inl, inr, length, refl, sym, subst}
use Rattle.std.specs.Prelude.{slice_get, slice_index_or}
use Rattle.std.specs.List.{AllByRecursion}
use Rattle.std.proofs.lemmas.Bool.{cases_eq}
use Rattle.pam_codes.specs.Code.{all_codes}
use Rattle.pam_codes.specs.Set.{is_in}
use Rattle.pam_dispatch.specs.declared.flat_item.FlatItem.{FlatItem}
use Rattle.pam_dispatch.specs.declared.place.Place.{Place}
use Rattle.pam_dispatch.specs.Flat.{modules_of, rest_of, runs_of}
use Rattle.pam_dispatch.specs.Runs.{Assignment, AsksRise, Runs, after_answer, asked_module}
use Rattle.pam_dispatch.proofs.Asking.{AsksRise-step}
use Rattle.pam_compare.specs.declared.held.HeldAnswer.{HeldAnswer}
use Rattle.pam_compare.specs.declared.nodes.Found.{Found}
use Rattle.pam_compare.specs.declared.nodes.Nodes.{Nodes}
use Rattle.pam_compare.specs.declared.nodes.Way.{Way}
use Rattle.pam_compare.specs.declared.situation.Situation.{Situation}
use Rattle.pam_compare.specs.declared.turn.Turn.{Turn}
use Rattle.pam_compare.specs.declared.turn.Turn.TheVariants.{Old, New, Both}
use Rattle.pam_compare.specs.Held.{Holds}
use Rattle.pam_compare.specs.Names.{by_name, name_of}
use Rattle.pam_compare.specs.inner.Naming.{IsPossible}
use Rattle.pam_compare.specs.inner.Nodes.{IsAt, Keeps, KeepsNodes, Stop}
use Rattle.pam_compare.specs.Situations.{Comes, after_steps}
use Rattle.pam_compare.specs.inner.Trails.{Follows, IsCovered, IsHeldAfter, IsPast, IsStep, IsTrail, answers_on}
use Rattle.pam_compare.specs.Walks.{new_after, old_after, turn_name}
use Rattle.pam_compare.specs.inner.Turn.{AreAlike, IsTurn}
use Rattle.pam_compare.specs.inner.Ways.{AreEnds, IsFit, IsReachedAt, IsWayTo}
use Rattle.pam_compare.proofs.Coming.{comes-on}
use Rattle.pam_compare.proofs.Growing.{at-kept, kept, same-node}
use Rattle.pam_compare.proofs.Trails.{covered-suits, follows-longer, longer-covered, trail-kept, with-other, with-same}

-- THE ANSWERS OF A TRAIL ARE POSSIBLE

pub possible-on : (possible : List (List ℕ)) (base : Assignment) (trail : List Way) → IsPossible possible base → AllByRecursion (IsFit possible) trail →
    IsPossible possible (answers_on base trail)
unfolding answers_on IsPossible
possible-on possible base [] can fits name = can name
possible-on possible base (w ∷ trail) can fits name =
    let Can : ℕ → Type 0 = λ code. (code < 31) × (is_in code (slice_index_or possible name all_codes) ≡ true) in
    elim (cases_eq name w.name) [
      | inl same ↦ subst Can (sym (with-same (answers_on base trail) w.name w.code name same)) (
        fits.0.code,
        subst (λ (n : ℕ). is_in w.code (slice_index_or possible n all_codes) ≡ true) (sym same) fits.0.member,
      )
      | inr other ↦ subst Can (sym (with-other (answers_on base trail) w.name w.code name other)) (possible-on possible base trail can fits.1 name)
    ]

-- ways that stay lead where they led
pub way-kept : (old new : List FlatItem) (names : List ℕ) (possible : List (List ℕ)) (ways more : List Way) (k : ℕ) (left right : Runs)
    (held : List HeldAnswer) → Keeps ways more → IsWayTo old new names possible ways k left right held → IsWayTo old new names possible more k left right held
unfolding Keeps
way-kept old new names possible ways more k left right held keeps w = record {
  trail = w.trail;
  is_trail = trail-kept ways more k w.trail keeps w.is_trail;
  old_low = w.old_low;
  old_rise = w.old_rise;
  new_low = w.new_low;
  new_rise = w.new_rise;
  fits = w.fits;
  follows = w.follows;
  covered = w.covered;
  old_comes = w.old_comes;
  new_comes = w.new_comes;
  holds = w.holds;
}

some-number : (i j : ℕ) → Some i ≡ Some j → i ≡ j
some-number i j e = cc

-- a run that rises asks a later module after an answer
later : (low high : ℕ) (runs : Runs) (i code j : ℕ) → AsksRise low high runs → asked_module runs ≡ Some i →
    asked_module (after_answer runs code) ≡ Some j → i < j
later low high runs i code j rise asked next = (AsksRise-step i high (after_answer runs code) j ((AsksRise-step low high runs i rise asked).2 code) next).0

module _ (old new : List FlatItem) (names : List ℕ) (left right : Runs) (old_low new_low : ℕ) (old_rise : AsksRise old_low (modules_of old) left)
    (new_rise : AsksRise new_low (modules_of new) right) where
  -- the module that is asked is not past
  not-past : (turn : Turn) → IsTurn names (asked_module left) (asked_module right) turn →
      IsPast names (modules_of old) (modules_of new) (turn_name names turn) (asked_module left) (asked_module right) → ⊥
  not-past (Old i) is past =
      let step = AsksRise-step old_low (modules_of old) left i old_rise is in
      let last = step.1 in
      elim (past.of_old i is) [ inl less ↦ omega (arith, less) | inr above ↦ omega (arith, above, last) ]
  not-past (New j) is past =
      let step = AsksRise-step new_low (modules_of new) right j new_rise is in
      let first = step.0 in
      let less = past.of_new j j is (omega (arith, first)) step.1 refl in
      omega (arith, less)
  not-past (Both i j) is past =
      let step = AsksRise-step old_low (modules_of old) left i old_rise is.0 in
      let last = step.1 in
      elim (past.of_old i is.0) [ inl less ↦ omega (arith, less) | inr above ↦ omega (arith, above, last) ]

  old-stays : (name code i : ℕ) → asked_module left ≡ Some i →
      ((m : ℕ) → asked_module left ≡ Some m → (name < m) ⊎ (modules_of old < name)) →
      (m : ℕ) → asked_module (after_answer left code) ≡ Some m → (name < m) ⊎ (modules_of old < name)
  old-stays name code i asked past m next =
      let less = later old_low (modules_of old) left i code m old_rise asked next in
      elim (past i asked) [ inl below ↦ inl (omega (arith, below, less)) | inr above ↦ inr above ]

  new-stays : (name code j : ℕ) → asked_module right ≡ Some j →
      ((m k : ℕ) → asked_module right ≡ Some m → 0 < k → k ≤ modules_of new → name_of names k ≡ name → k < m) →
      (m k : ℕ) → asked_module (after_answer right code) ≡ Some m → 0 < k → k ≤ modules_of new → name_of names k ≡ name → k < m
  new-stays name code j asked past m k next first last is =
      let less = later new_low (modules_of new) right j code m new_rise asked next in
      let below = past j k asked first last is in
      omega (arith, below, less)

  -- what is past stays past
  stays-past : (turn : Turn) (code : ℕ) → IsTurn names (asked_module left) (asked_module right) turn → (name : ℕ) →
      IsPast names (modules_of old) (modules_of new) name (asked_module left) (asked_module right) →
      IsPast names (modules_of old) (modules_of new) name (asked_module (old_after turn left code)) (asked_module (new_after turn right code))
  stays-past (Old i) code is name past = record { of_old = old-stays name code i is past.of_old; of_new = past.of_new }
  stays-past (New j) code is name past = record { of_old = past.of_old; of_new = new-stays name code j is past.of_new }
  stays-past (Both i j) code is name past = record { of_old = old-stays name code i is.0 past.of_old; of_new = new-stays name code j is.1 past.of_new }

  pub old-rises : (turn : Turn) (code : ℕ) → IsTurn names (asked_module left) (asked_module right) turn →
      (low : ℕ) × AsksRise low (modules_of old) (old_after turn left code)
  old-rises (Old i) code is = (i, (AsksRise-step old_low (modules_of old) left i old_rise is).2 code)
  old-rises (New j) code is = (old_low, old_rise)
  old-rises (Both i j) code is = (i, (AsksRise-step old_low (modules_of old) left i old_rise is.0).2 code)

  pub new-rises : (turn : Turn) (code : ℕ) → IsTurn names (asked_module left) (asked_module right) turn →
      (low : ℕ) × AsksRise low (modules_of new) (new_after turn right code)
  new-rises (Old i) code is = (new_low, new_rise)
  new-rises (New j) code is = (j, (AsksRise-step new_low (modules_of new) right j new_rise is).2 code)
  new-rises (Both i j) code is = (j, (AsksRise-step new_low (modules_of new) right j new_rise is.1).2 code)

  -- the name of the module that is asked is one of the table
  name-low : (turn : Turn) → IsTurn names (asked_module left) (asked_module right) turn →
      ((j : ℕ) → 0 < j → j ≤ modules_of new → name_of names j ≤ modules_of old + modules_of new) → turn_name names turn ≤ modules_of old + modules_of new
  name-low (Old i) is low = let step = AsksRise-step old_low (modules_of old) left i old_rise is in let last = step.1 in omega (arith, last)
  name-low (New j) is low =
      let step = AsksRise-step new_low (modules_of new) right j new_rise is in
      let first = step.0 in
      low j (omega (arith, first)) step.1
  name-low (Both i j) is low = let step = AsksRise-step old_low (modules_of old) left i old_rise is.0 in let last = step.1 in omega (arith, last)

-- both runs come to what is left after an answer that is alike
module _ (names : List ℕ) (whole_old whole_new left right : Runs) (a : Assignment) where
  old-comes : (turn : Turn) (code : ℕ) → IsTurn names (asked_module left) (asked_module right) turn → AreAlike turn left right code (a (turn_name names turn)) →
      Comes whole_old a left → Comes whole_old a (old_after turn left code)
  old-comes (Old i) code is alike c = subst (Comes whole_old a) (sym alike.0) (comes-on whole_old left a i (a i) c is refl)
  old-comes (New j) code is alike c = c
  old-comes (Both i j) code is alike c = subst (Comes whole_old a) (sym alike.0) (comes-on whole_old left a i (a i) c is.0 refl)

  new-comes : (turn : Turn) (code : ℕ) → IsTurn names (asked_module left) (asked_module right) turn → AreAlike turn left right code (a (turn_name names turn)) →
      Comes whole_new (by_name names a) right → Comes whole_new (by_name names a) (new_after turn right code)
  new-comes (Old i) code is alike c = c
  new-comes (New j) code is alike c =
      subst (Comes whole_new (by_name names a)) (sym alike.1) (comes-on whole_new right (by_name names a) j (a (name_of names j)) c is refl)
  new-comes (Both i j) code is alike c =
      subst (Comes whole_new (by_name names a)) (sym alike.1) (comes-on whole_new right (by_name names a) j (a i) c is.1 (ap a is.2))

module _ (old new : List FlatItem) (names : List ℕ) (possible : List (List ℕ)) (ways more : List Way) (left right : Runs) (held after : List HeldAnswer)
    (turn : Turn) (w : Way) (k : ℕ) (answer : HeldAnswer)
    (way : IsWayTo old new names possible ways w.parent left right held) (step : IsStep names possible left right held turn w)
    (fits : (j : ℕ) → 0 < j → j ≤ modules_of new → name_of names j ≤ modules_of old + modules_of new)
    (all : length possible ≡ modules_of old + modules_of new + 1)
    (keeps : Keeps ways more) (at : slice_get more k ≡ Some w) (before : w.parent < k)
    (answer_name : w.name ≡ answer.name) (answer_codes : w.class ≡ answer.codes)
    (held_after : IsHeldAfter possible names (modules_of old) (modules_of new) held after answer (asked_module (old_after turn left w.code))
    (asked_module (new_after turn right w.code)))
    (holds_after : (a : Assignment) → Holds a held → is_in (a answer.name) answer.codes ≡ true → Holds a after) where
  way-trail : IsTrail more k (w ∷ way.trail)
  unfolding IsTrail Keeps
  way-trail = (omega (arith, before), at, before, trail-kept ways more w.parent way.trail keeps way.is_trail)

  way-follows : (base : Assignment) → Follows (answers_on base (w ∷ way.trail)) (w ∷ way.trail)
  way-follows base =
      follows-longer base w way.trail (way.follows base) step.member
      (covered-suits possible names (modules_of old) (modules_of new) held (asked_module left) (asked_module right) w.name w.code way.trail
      (λ i h there same. step.narrows i h there same w.code step.member)
      (λ past. not-past old new names left right way.old_low way.new_low way.old_rise way.new_rise turn step.turn_is
      (subst (λ (n : ℕ). IsPast names (modules_of old) (modules_of new) n (asked_module left) (asked_module right)) step.name past))
      (step.low w.code step.member) (step.within w.code step.member) way.covered)

  way-covered : IsCovered possible names (modules_of old) (modules_of new) after (asked_module (old_after turn left w.code))
      (asked_module (new_after turn right w.code)) (w ∷ way.trail)
  way-covered =
      longer-covered possible names (modules_of old) (modules_of new) held after (asked_module left) (asked_module right) _ _ answer held_after.keeps
      held_after.adds
      (λ i h there same d member. step.narrows i h there (same ∙ sym answer_name) d (subst (λ (s : List ℕ). is_in d s ≡ true) (sym answer_codes) member))
      (λ name past. stays-past old new names left right way.old_low way.new_low way.old_rise way.new_rise turn w.code step.turn_is name past)
      w way.trail answer_name answer_codes way.covered

  way-alike : (a : Assignment) → Follows a (w ∷ way.trail) → AreAlike turn left right w.code (a (turn_name names turn))
  unfolding Follows
  way-alike a f = subst (λ (n : ℕ). AreAlike turn left right w.code (a n)) step.name (step.alike (a w.name) f.0)

  pub way-longer : IsWayTo old new names possible more k (old_after turn left w.code) (new_after turn right w.code) after
  unfolding Follows
  way-longer =
      let old_rises = old-rises old new names left right way.old_low way.new_low way.old_rise way.new_rise turn w.code step.turn_is in
      let new_rises = new-rises old new names left right way.old_low way.new_low way.old_rise way.new_rise turn w.code step.turn_is in
      let name : turn_name names turn ≤ modules_of old + modules_of new =
      name-low old new names left right way.old_low way.new_low way.old_rise way.new_rise turn step.turn_is fits in
      record {
        trail = w ∷ way.trail;
        is_trail = way-trail;
        old_low = old_rises.0;
        old_rise = old_rises.1;
        new_low = new_rises.0;
        new_rise = new_rises.1;
        fits = (
          record {
            code = step.low w.code step.member;
            member = step.within w.code step.member;
            within = omega (arith, step.name, name, all);
            usual = step.usual;
          },
          way.fits,
        );
        follows = way-follows;
        covered = way-covered;
        old_comes = λ a f. old-comes names (runs_of old) (runs_of new) left right a turn w.code step.turn_is (way-alike a f) (way.old_comes a f.1);
        new_comes = λ a f. new-comes names (runs_of old) (runs_of new) left right a turn w.code step.turn_is (way-alike a f) (way.new_comes a f.1);
        holds = λ a f. holds_after a (way.holds a f.1)
            (subst (λ (n : ℕ). is_in (a n) answer.codes ≡ true) answer_name (subst (λ (s : List ℕ). is_in (a w.name) s ≡ true) answer_codes f.0));
      }

-- NODES

-- the way to a node that has a situation
pub way-at : (old new : List FlatItem) (names : List ℕ) (possible : List (List ℕ)) (nodes : Nodes) (k : ℕ) (s : Situation) (n : Stop) →
    IsReachedAt old new names possible nodes k s → IsAt nodes s n →
    IsWayTo old new names possible nodes.ways.items k (rest_of old n.old) (rest_of new n.new) n.held
way-at old new names possible nodes k s n r at =
    let same = same-node nodes s r.node n r.is_at at in
    subst (λ (l : List HeldAnswer). IsWayTo old new names possible nodes.ways.items k (rest_of old n.old) (rest_of new n.new) l) same.2
    (subst (λ (p : Place). IsWayTo old new names possible nodes.ways.items k (rest_of old n.old) (rest_of new p) r.node.held) same.1
    (subst (λ (p : Place). IsWayTo old new names possible nodes.ways.items k (rest_of old p) (rest_of new r.node.new) r.node.held) same.0 r.way))

pub reached-kept : (old new : List FlatItem) (names : List ℕ) (possible : List (List ℕ)) (before after : Nodes) (k : ℕ) (s : Situation) →
    KeepsNodes before after → IsReachedAt old new names possible before k s → IsReachedAt old new names possible after k s
reached-kept old new names possible before after k s keeps r = record {
  node = r.node;
  is_at = at-kept before after s r.node keeps r.is_at;
  way = way-kept old new names possible _ _ k _ _ _ keeps.ways r.way;
}

pub ends-kept : (old new : List FlatItem) (before after : Nodes) (found : Found) → KeepsNodes before after → AreEnds old new before found →
    AreEnds old new after found
unfolding AreEnds
ends-kept old new before after found keeps ends change k is =
    let e = ends change k is in record {
      situation = e.situation;
      node = e.node;
      is_there = kept _ _ k e.situation keeps.situations e.is_there;
      is_at = at-kept before after e.situation e.node keeps e.is_at;
      old_ends = e.old_ends;
      new_ends = e.new_ends;
      change_is = e.change_is;
    }

-- the way on which both stacks begin
pub way-begun : (old new : List FlatItem) (names : List ℕ) (possible : List (List ℕ)) (ways : List Way) → AsksRise 0 (modules_of old) (runs_of old) →
    AsksRise 0 (modules_of new) (runs_of new) → IsWayTo old new names possible ways 0 (runs_of old) (runs_of new) []
unfolding IsTrail Follows IsCovered Holds after_steps
way-begun old new names possible ways rise_old rise_new = record {
  trail = [];
  is_trail = refl;
  old_low = 0;
  old_rise = rise_old;
  new_low = 0;
  new_rise = rise_new;
  fits = tt;
  follows = λ base. tt;
  covered = tt;
  old_comes = λ a f. (0, refl);
  new_comes = λ a f. (0, refl);
  holds = λ a f. tt;
}
