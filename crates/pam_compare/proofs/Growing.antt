-- Lists of places and situations that grow.
use Rattle.std.proofs.Common.{◌≡◌, ◌<◌, ◌≤◌, ◌+◌, ◌⊎◌, ◌∙◌, inl, inr, ℕ, zero, suc, Bool, true, false, cond, List, [], ◌∷◌, ◌++◌, Option, Some, None}
use Rattle.std.proofs.Common.{drop, get_or, length, ap, arith, refl, sym, subst}
use Rattle.std.specs.List.{list_any}
use Rattle.std.specs.Prelude.{not, slice_get}
use Rattle.std.proofs.lemmas.Bool.{false≢true}
use Rattle.std.proofs.lemmas.List.{length_push}
use Rattle.std.proofs.lemmas.Option.{slice_get-get_or, slice_get_within}
use Rattle.pam_codes.specs.Set.{IsCodeSet}
use Rattle.pam_dispatch.specs.declared.flat_item.FlatItem.{FlatItem}
use Rattle.pam_dispatch.specs.declared.place.Place.{Place}
use Rattle.pam_dispatch.specs.Flat.{IsPlaceOf, rest_of}
use Rattle.pam_dispatch.specs.Keys.{KeyValue, key_of, rest_at}
use Rattle.pam_dispatch.specs.Runs.{Assignment, Runs}
use Rattle.pam_compare.specs.declared.change.Change.{Change}
use Rattle.pam_compare.specs.declared.nodes.Found.{Found}
use Rattle.pam_compare.specs.declared.nodes.Nodes.{Nodes}
use Rattle.pam_compare.specs.declared.nodes.Places.{Places}
use Rattle.pam_compare.specs.declared.nodes.Way.{Way}
use Rattle.pam_compare.specs.declared.held.HeldAnswer.{HeldAnswer}
use Rattle.pam_compare.specs.declared.held_lists.HeldLists.{HeldLists}
use Rattle.pam_compare.specs.declared.held_lists.Link.{Link}
use Rattle.pam_compare.specs.declared.situation.Situation.{Situation}
use Rattle.pam_compare.specs.Held.{Holds}
use Rattle.pam_compare.specs.Walks.{Order}
use Rattle.pam_compare.specs.inner.HeldLists.{AreLinks, IsListed}
use Rattle.pam_compare.specs.inner.Nodes.{AreEndsOf, AreHeldAt, AreNodes, ArePlaces, IsAt, IsDone, IsLeftAt, IsMet}
use Rattle.pam_compare.specs.inner.Nodes.{IsNear, IsNew, IsNoted, IsStored, IsVisited, Keeps, KeepsFound, KeepsNodes, found_at}
use Rattle.pam_compare.specs.inner.Nodes.{Stop, list_of}
use Rattle.pam_compare.proofs.Lists.{listed-kept, one-listed}

pub nothing : {X : Type 0} (x : X) → None ≡ Some x → ⊥
nothing x e = cc

pub same-some : {X : Type 0} (x y : X) → Some x ≡ Some y → x ≡ y
same-some x y e = cc

pub append-left : {X : Type 0} (xs ys : List X) (k : ℕ) (x : X) → slice_get xs k ≡ Some x → slice_get (xs ++ ys) k ≡ Some x
append-left [] ys k x at = absurd (nothing x at)
append-left (y ∷ xs) ys zero x at = at
append-left (y ∷ xs) ys (suc k) x at = append-left xs ys k x at

pub at-end : {X : Type 0} (xs : List X) (y : X) → slice_get (xs ++ y ∷ []) (length xs) ≡ Some y
at-end [] y = refl
at-end (x ∷ xs) y = at-end xs y

pub append-cases : {X : Type 0} (xs : List X) (y : X) (k : ℕ) (x : X) → slice_get (xs ++ y ∷ []) k ≡ Some x →
    (slice_get xs k ≡ Some x) ⊎ ((y ≡ x) × (k ≡ length xs))
append-cases [] y zero x at = inr (same-some y x at, refl)
append-cases [] y (suc k) x at = absurd (nothing x at)
append-cases (z ∷ xs) y zero x at = inl at
append-cases (z ∷ xs) y (suc k) x at =
    elim (append-cases xs y k x at) [
      | inl was ↦ inl was
      | inr new ↦ inr (new.0, omega (arith, new.1))
    ]

pub there-after : {X : Type 0} (xs ys : List X) (k : ℕ) (y : X) → slice_get ys k ≡ Some y → (m : ℕ) × (slice_get (xs ++ ys) m ≡ Some y)
there-after [] ys k y at = (k, at)
there-after (x ∷ xs) ys k y at = let later = there-after xs ys k y at in (suc later.0, later.1)

pub there-dropped : {X : Type 0} (xs : List X) (start i : ℕ) (y : X) → start ≤ i → slice_get xs i ≡ Some y →
    (m : ℕ) × (slice_get (drop start xs) m ≡ Some y)
there-dropped xs zero i y low at = (i, at)
there-dropped [] (suc start) i y low at = absurd (nothing y at)
there-dropped (x ∷ xs) (suc start) zero y low at = absurd (omega (arith, low))
there-dropped (x ∷ xs) (suc start) (suc i) y low at = there-dropped xs start i y (omega (arith, low)) at

pub nothing-at : {X : Type 0} (xs : List X) (k : ℕ) → length xs ≡ 0 → slice_get xs k ≡ None
nothing-at [] k e = refl
nothing-at (x ∷ xs) k e = absurd (omega (arith, e))

pub keeps-same : {X : Type 0} (xs : List X) → Keeps xs xs
unfolding Keeps
keeps-same xs k x at = at

pub keeps-equal : {X : Type 0} (xs ys : List X) → ys ≡ xs → Keeps xs ys
unfolding Keeps
keeps-equal xs ys e k x at = ap (λ l. slice_get l k) e ∙ at

pub keeps-push : {X : Type 0} (xs : List X) (y : X) (ys : List X) → ys ≡ xs ++ y ∷ [] → Keeps xs ys
unfolding Keeps
keeps-push xs y ys e k x at = ap (λ l. slice_get l k) e ∙ append-left xs (y ∷ []) k x at

pub keeps-both : {X : Type 0} (xs ys zs : List X) → Keeps xs ys → Keeps ys zs → Keeps xs zs
unfolding Keeps
keeps-both xs ys zs f g k x at = g k x (f k x at)

pub kept : {X : Type 0} (xs ys : List X) (k : ℕ) (x : X) → Keeps xs ys → slice_get xs k ≡ Some x → slice_get ys k ≡ Some x
unfolding Keeps
kept xs ys k x keeps at = keeps k x at

-- what is there after, at an index that was there before, was there
pub kept-back : {X : Type 0} (xs ys : List X) (k : ℕ) (x : X) → Keeps xs ys → k < length xs → slice_get ys k ≡ Some x → slice_get xs k ≡ Some x
unfolding Keeps
kept-back xs ys k x keeps within at =
    let was = slice_get-get_or xs k x within in
    was ∙ sym (keeps k (get_or xs k x) was) ∙ at

-- something is there within a list
pub there-within : {X : Type 0} (xs : List X) (k : ℕ) → k < length xs → (x : X) × (slice_get xs k ≡ Some x)
there-within [] k below = absurd (omega arith)
there-within (x ∷ xs) k below = (get_or (x ∷ xs) k x, slice_get-get_or (x ∷ xs) k x below)

pub longer : {X : Type 0} (xs ys : List X) (k : ℕ) → Keeps xs ys → k < length xs → k < length ys
longer {X} xs ys k keeps within = go xs within (λ x at. kept xs ys k x keeps at)
  where
    go : (l : List X) → k < length l → ((x : X) → slice_get l k ≡ Some x → slice_get ys k ≡ Some x) → k < length ys
    go [] below f = absurd (omega arith)
    go (z ∷ zs) below f = slice_get_within ys k (get_or (z ∷ zs) k z) (f _ (slice_get-get_or (z ∷ zs) k z below))

-- PLACES

pub places-none : (program : List FlatItem) (places : List Place) (keys : List KeyValue) → places ≡ [] → keys ≡ [] → ArePlaces program places keys
places-none program places keys e f = record {
  count = ap (λ (l : List Place). length l) e ∙ sym (ap (λ (l : List KeyValue). length l) f);
  stored = λ k p at. absurd (nothing p (sym (ap (λ (l : List Place). slice_get l k) e) ∙ at));
}

pub places-push : (program : List FlatItem) (places : List Place) (keys : List KeyValue) (place : Place) (places' : List Place) (keys' : List KeyValue) →
    places' ≡ places ++ place ∷ [] → keys' ≡ keys ++ key_of place ∷ [] → ArePlaces program places keys → IsPlaceOf program place →
    rest_at program (key_of place) ≡ rest_of program place → ArePlaces program places' keys'
places-push program places keys place places' keys' e f are here rest =
    let short = are.count in record {
      count = ap (λ (l : List Place). length l) e ∙ length_push places place ∙ ap (λ (n : ℕ). n + 1) short ∙ sym (length_push keys (key_of place))
          ∙ sym (ap (λ (l : List KeyValue). length l) f);
      stored = λ k p at. elim (append-cases places place k p (sym (ap (λ (l : List Place). slice_get l k) e) ∙ at)) [
        | inl was ↦ let old = are.stored k p was in record {
          place = old.place;
          key = ap (λ (l : List KeyValue). slice_get l k) f ∙ append-left keys (key_of place ∷ []) k (key_of p) old.key;
          rest = old.rest;
        }
        | inr new ↦ subst (λ (q : Place). IsStored program keys' k q) new.0 (record {
          place = here;
          key = ap (λ (l : List KeyValue). slice_get l k) f
              ∙ ap (λ (n : ℕ). slice_get (keys ++ key_of place ∷ []) n) (new.1 ∙ short) ∙ at-end keys (key_of place);
          rest = rest;
        })
      ];
    }

-- a place that has a key is found
pub place-found : (program : List FlatItem) (places : List Place) (keys : List KeyValue) (place : Place) (k : ℕ) → ArePlaces program places keys →
    slice_get keys k ≡ Some (key_of place) → rest_at program (key_of place) ≡ rest_of program place →
    (p : Place) × (slice_get places k ≡ Some p) × (rest_of program p ≡ rest_of program place)
place-found program places keys place k are at rest =
    let inside = slice_get_within keys k (key_of place) at in
    let within : k < length places = omega (arith, inside, are.count) in
    let p : Place = get_or places k place in
    let there = slice_get-get_or places k place within in
    let stored = are.stored k p there in
    let same : key_of p ≡ key_of place = same-some (key_of p) (key_of place) (sym stored.key ∙ at) in
    (p, there, sym stored.rest ∙ ap (rest_at program) same ∙ rest)

pub place-added : (program : List FlatItem) (places : List Place) (place : Place) (places' : List Place) (k : ℕ) → places' ≡ places ++ place ∷ [] →
    k ≡ length places → (p : Place) × (slice_get places' k ≡ Some p) × (rest_of program p ≡ rest_of program place)
place-added program places place places' k e is =
    (place, ap (λ (l : List Place). slice_get l k) e ∙ ap (λ (n : ℕ). slice_get (places ++ place ∷ []) n) is ∙ at-end places place, refl)

-- WHAT STAYS

pub nodes-both : (a b c : Nodes) → KeepsNodes a b → KeepsNodes b c → KeepsNodes a c
nodes-both a b c f g = record {
  of_old = keeps-both _ _ _ f.of_old g.of_old;
  of_new = keeps-both _ _ _ f.of_new g.of_new;
  held_lists = keeps-both _ _ _ f.held_lists g.held_lists;
  situations = keeps-both _ _ _ f.situations g.situations;
  ways = keeps-both _ _ _ f.ways g.ways;
}

pub nodes-same : (a : Nodes) → KeepsNodes a a
nodes-same a = record { of_old = keeps-same _; of_new = keeps-same _; held_lists = keeps-same _; situations = keeps-same _; ways = keeps-same _ }

pub at-kept : (before after : Nodes) (s : Situation) (n : Stop) → KeepsNodes before after → IsAt before s n → IsAt after s n
at-kept before after s n keeps is = record {
  old = kept _ _ _ _ keeps.of_old is.old;
  new = kept _ _ _ _ keeps.of_new is.new;
  held = listed-kept _ _ s.held n.held keeps.held_lists is.held;
}

pub met-kept : (old new : List FlatItem) (before after : Nodes) (a : Assignment) (left right : Runs) → KeepsNodes before after →
    IsMet old new before a left right → IsMet old new after a left right
met-kept old new before after a left right keeps m = record {
  index = m.index;
  situation = m.situation;
  node = m.node;
  is_there = kept _ _ _ _ keeps.situations m.is_there;
  is_at = at-kept before after m.situation m.node keeps m.is_at;
  left_is = m.left_is;
  right_is = m.right_is;
  holds = m.holds;
}

pub held-kept : (before after : Nodes) (index : ℕ) (held : List HeldAnswer) → KeepsNodes before after → index < length before.situations.keys →
    AreHeldAt before index held → AreHeldAt after index held
held-kept before after index held keeps within is =
    let nowhere : Situation = record { old = 0; new = 0; held = 0 } in
    let s = get_or before.situations.keys index nowhere in
    let there = slice_get-get_or before.situations.keys index nowhere within in
    subst (λ (o : Option Situation). IsListed after.held_lists.links.keys (list_of o) held) (sym (kept _ _ index s keeps.situations there))
    (listed-kept _ _ s.held held keeps.held_lists (subst (λ (o : Option Situation). IsListed before.held_lists.links.keys (list_of o) held) there is))

-- what is visited stays visited
-- what is found at the first node stays there
pub first-kept : (old new : List FlatItem) (before after : Nodes) (a : Assignment) (left right : Runs) → KeepsNodes before after →
    (m : IsMet old new before a left right) × (m.index ≡ 0) → (m : IsMet old new after a left right) × (m.index ≡ 0)
unfolding met-kept
first-kept old new before after a left right keeps first = (met-kept old new before after a left right keeps first.0, first.1)

pub found-same : (f : Found) → KeepsFound f f
unfolding KeepsFound
found-same f change k is = is

noted-kept : (found more : Found) (index : ℕ) (change : Option Change) → KeepsFound found more → IsNoted found index change → IsNoted more index change
unfolding KeepsFound
noted-kept found more index None keeps noted = tt
noted-kept found more index (Some change) keeps noted = (noted.0, keeps change noted.0 noted.1, noted.2)

near-kept : (before after : Nodes) (index met : ℕ) → KeepsNodes before after → IsNear before index met → IsNear after index met
near-kept before after index met keeps (inl first) = inl first
near-kept before after index met keeps (inr from) = inr (from.0, kept _ _ met from.0 keeps.ways from.1, from.2)

pub visited-kept : (old new : List FlatItem) (names : List ℕ) (old_first : Order) (possible : List (List ℕ)) (before after : Nodes) (found more : Found)
    (index : ℕ) (s : Situation) → KeepsNodes before after → KeepsFound found more →
    IsVisited old new names old_first possible before found index s → IsVisited old new names old_first possible after more index s
unfolding IsDone met-kept
visited-kept old new names old_first possible before after found more index s keeps noted v = record {
  node = v.node;
  is_at = at-kept before after s v.node keeps v.is_at;
  done = λ a can holds. elim (v.done a can holds) [
    | inl d ↦ inl (noted-kept found more index _ noted d)
    | inr w ↦
        let f = w.0 in
        inr ((f.0, f.1, met-kept old new before after a _ _ keeps f.2), near-kept before after index f.2.index keeps w.1)
  ];
}

-- a situation is that of one node
pub same-node : (nodes : Nodes) (s : Situation) (n m : Stop) → IsAt nodes s n → IsAt nodes s m →
    (n.old ≡ m.old) × (n.new ≡ m.new) × (n.held ≡ m.held)
same-node nodes s n m one other =
    (same-some n.old m.old (sym one.old ∙ other.old), same-some n.new m.new (sym one.new ∙ other.new), one-listed _ s.held _ _ one.held other.held)

-- VALUES OF A SET

module _ {X : Type 0} (test : X → Bool) (keys after : List X) (value : X)
    (is : after ≡ cond (list_any test keys) keys (keys ++ value ∷ [])) where
  by-keeps : (t : Bool) → after ≡ cond t keys (keys ++ value ∷ []) → Keeps keys after
  by-keeps true e = keeps-equal keys after e
  by-keeps false e = keeps-push keys value after e

  pub insert-keeps : Keeps keys after
  insert-keeps = by-keeps (list_any test keys) is

  by-new : (t : Bool) → true ≡ not t → after ≡ cond t keys (keys ++ value ∷ []) → after ≡ keys ++ value ∷ []
  by-new true out e = absurd (false≢true (sym out))
  by-new false out e = e

  pub insert-new : true ≡ not (list_any test keys) → after ≡ keys ++ value ∷ []
  insert-new out = by-new (list_any test keys) out is

  by-old : (t : Bool) → false ≡ not t → after ≡ cond t keys (keys ++ value ∷ []) → after ≡ keys
  by-old true out e = e
  by-old false out e = absurd (false≢true out)

  pub insert-old : false ≡ not (list_any test keys) → after ≡ keys
  insert-old out = by-old (list_any test keys) out is

-- SITUATIONS

pub pushed-cases : {P : Type 0} (keys after : List Situation) (value : Situation) → after ≡ keys ++ value ∷ [] → P → (k : ℕ) (s : Situation) →
    slice_get after k ≡ Some s → (slice_get keys k ≡ Some s) ⊎ ((s ≡ value) × (k ≡ length keys) × P)
pushed-cases keys after value e p k s at =
    elim (append-cases keys value k s (sym (ap (λ (l : List Situation). slice_get l k) e) ∙ at)) [
      | inl was ↦ inl was
      | inr new ↦ inr (sym new.0, new.1, p)
    ]

-- situations stay nodes where their places and lists are kept
pub tables-grown : (old new : List FlatItem) (before after : Nodes) → KeepsNodes before after → after.situations.keys ≡ before.situations.keys →
    ArePlaces old after.old_places.places.items after.old_places.keys → ArePlaces new after.new_places.places.items after.new_places.keys →
    AreEndsOf old after.old_places.places.items after.old_places.ends.items → AreEndsOf new after.new_places.places.items after.new_places.ends.items →
    AreLinks after.held_lists.links.keys → AreNodes old new before → AreNodes old new after
tables-grown old new before after keeps same is_old is_new old_ends new_ends links are =
    let was : (k : ℕ) (s : Situation) → slice_get after.situations.keys k ≡ Some s → slice_get before.situations.keys k ≡ Some s =
    λ k s at. sym (ap (λ (l : List Situation). slice_get l k) same) ∙ at in
    record {
      of_old = is_old;
      of_new = is_new;
      old_ends = old_ends;
      new_ends = new_ends;
      links = links;
      within = λ k s at. let w = are.within k s (was k s at) in (longer _ _ s.old keeps.of_old w.0, longer _ _ s.new keeps.of_new w.1);
      listed = λ k s at. let w = are.listed k s (was k s at) in (w.0, listed-kept _ _ s.held w.0 keeps.held_lists w.1);
    }

pub situation-keeps : (before after : Nodes) → after.old_places ≡ before.old_places → after.new_places ≡ before.new_places →
    after.held_lists ≡ before.held_lists → Keeps before.situations.keys after.situations.keys → Keeps before.ways.items after.ways.items →
    KeepsNodes before after
situation-keeps before after of_old of_new lists situations ways = record {
  of_old = keeps-equal _ _ (ap (λ (x : Places). x.places.items) of_old);
  of_new = keeps-equal _ _ (ap (λ (x : Places). x.places.items) of_new);
  held_lists = keeps-equal _ _ (ap (λ (x : HeldLists). x.links.keys) lists);
  situations = situations;
  ways = ways;
}

-- one more situation, whose places and list are stored
module _ (old new : List FlatItem) (before after : Nodes) (situation : Situation) (left right : Runs) (held : List HeldAnswer)
    (of_old : after.old_places ≡ before.old_places) (of_new : after.new_places ≡ before.new_places) (lists : after.held_lists ≡ before.held_lists)
    (there : IsLeftAt old new before left right held situation) where
  is-at : IsAt after situation there.node
  is-at = record {
    old = ap (λ (x : Places). slice_get x.places.items situation.old) of_old ∙ there.is_at.old;
    new = ap (λ (x : Places). slice_get x.places.items situation.new) of_new ∙ there.is_at.new;
    held = subst (λ (x : HeldLists). IsListed x.links.keys situation.held there.node.held) (sym lists) there.is_at.held;
  }

  pub nodes-added : AreNodes old new before →
      ((k : ℕ) (s : Situation) → slice_get after.situations.keys k ≡ Some s → (slice_get before.situations.keys k ≡ Some s) ⊎ (s ≡ situation)) →
      AreNodes old new after
  nodes-added are only =
      let Within : Situation → Places → Places → Type 0 = λ s o n. (s.old < length o.places.items) × (s.new < length n.places.items) in
      record {
        of_old = subst (λ (x : Places). ArePlaces old x.places.items x.keys) (sym of_old) are.of_old;
        of_new = subst (λ (x : Places). ArePlaces new x.places.items x.keys) (sym of_new) are.of_new;
        old_ends = subst (λ (x : Places). AreEndsOf old x.places.items x.ends.items) (sym of_old) are.old_ends;
        new_ends = subst (λ (x : Places). AreEndsOf new x.places.items x.ends.items) (sym of_new) are.new_ends;
        links = subst (λ (x : HeldLists). AreLinks x.links.keys) (sym lists) are.links;
        within = λ k s at. elim (only k s at) [
          | inl was ↦ subst (λ x. Within s x after.new_places) (sym of_old) (subst (Within s before.old_places) (sym of_new) (are.within k s was))
          | inr same ↦ subst (λ x. Within x after.old_places after.new_places) (sym same)
              (slice_get_within _ situation.old there.node.old is-at.old, slice_get_within _ situation.new there.node.new is-at.new)
        ];
        listed = λ k s at. elim (only k s at) [
          | inl was ↦ let w = are.listed k s was in (w.0, subst (λ (x : HeldLists). IsListed x.links.keys s.held w.0) (sym lists) w.1)
          | inr same ↦ (there.node.held, subst (λ (x : Situation). IsListed after.held_lists.links.keys x.held there.node.held) (sym same) is-at.held)
        ];
      }

  pub new-added : (all : Nodes) (way : Way) (k : ℕ) (s : Situation) → s ≡ situation → k ≡ length all.situations.keys →
      after.ways.items ≡ all.ways.items ++ way ∷ [] → IsNew old new all after left right held way k s
  new-added all way k s same index ways = record {
    node = there.node;
    is_at = subst (λ (x : Situation). IsAt after x there.node) (sym same) is-at;
    left_is = there.left_is;
    right_is = there.right_is;
    held_is = there.held_is;
    index = index;
    ways = ways;
  }

  pub met-added : (a : Assignment) (k : ℕ) (s : Situation) → slice_get after.situations.keys k ≡ Some s → s ≡ situation → Holds a held →
      IsMet old new after a left right
  met-added a k s at same holds = record {
    index = k;
    situation = s;
    node = there.node;
    is_there = at;
    is_at = subst (λ (x : Situation). IsAt after x there.node) (sym same) is-at;
    left_is = there.left_is;
    right_is = there.right_is;
    holds = subst (Holds a) (sym there.held_is) holds;
  }

-- LINKS

pub links-none : (links : List Link) → links ≡ [] → AreLinks links
links-none links e = record { each = λ k l at. absurd (nothing l (sym (ap (λ (x : List Link). slice_get x k) e) ∙ at)) }

module _ (keys after : List Link) (value : Link) (within : value.before ≤ length keys) (set : IsCodeSet value.answer.codes) (are : AreLinks keys) where
  links-pushed : after ≡ keys ++ value ∷ [] → AreLinks after
  links-pushed e = record {
    each = λ k l at. elim (append-cases keys value k l (sym (ap (λ (x : List Link). slice_get x k) e) ∙ at)) [
      | inl was ↦ are.each k l was
      | inr new ↦ (
        subst (λ (x : Link). x.before ≤ k) new.0 (omega (arith, within, new.1)),
        subst (λ (x : Link). IsCodeSet x.answer.codes) new.0 set,
      )
    ];
  }

  by-links : (t : Bool) → after ≡ cond t keys (keys ++ value ∷ []) → AreLinks after
  by-links true e = subst AreLinks (sym e) are
  by-links false e = links-pushed e

  pub links-inserted : (test : Link → Bool) → after ≡ cond (list_any test keys) keys (keys ++ value ∷ []) → AreLinks after
  links-inserted test e = by-links (list_any test keys) e
