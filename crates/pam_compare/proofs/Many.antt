-- Many situations, each of which is reached.
use Rattle.std.proofs.Common.{◌≡◌, ◌<◌, ◌∙◌, ℕ, zero, suc, List, [], ◌∷◌, Option, Some, get_or, length, map, ap, arith, refl, subst, sym}
use Rattle.std.specs.List.{AllByRecursion, IsDistinct}
use Rattle.std.specs.Prelude.{slice_get}
use Rattle.std.proofs.lemmas.List.{length-map}
use Rattle.std.proofs.lemmas.Option.{slice_get-get_or, slice_get_within}
use Rattle.pam_dispatch.specs.declared.flat_item.FlatItem.{FlatItem}
use Rattle.pam_dispatch.specs.declared.place.Place.{Place}
use Rattle.pam_dispatch.specs.Flat.{modules_of, rest_of, runs_of}
use Rattle.pam_dispatch.specs.Keys.{AreDifferent, KeyValue, key_of, rest_at}
use Rattle.pam_dispatch.specs.Runs.{Assignment, Runs, asked_module}
use Rattle.pam_paths.specs.Listing.{Allowance, IsAllowed}
use Rattle.pam_compare.specs.declared.held.HeldAnswer.{HeldAnswer}
use Rattle.pam_compare.specs.declared.naming.Naming.{Naming}
use Rattle.pam_compare.specs.declared.nodes.Nodes.{Nodes}
use Rattle.pam_compare.specs.declared.situation.Situation.{Situation}
use Rattle.pam_compare.specs.Agreement.{Agree}
use Rattle.pam_compare.specs.Held.{Holds}
use Rattle.pam_compare.specs.inner.Held.{same_situation}
use Rattle.pam_compare.specs.inner.HeldLists.{same_link}
use Rattle.pam_compare.specs.Names.{AreNames, by_name, name_of}
use Rattle.pam_compare.specs.inner.Naming.{IsKnown, IsPossible}
use Rattle.pam_compare.specs.Walks.{IsAfter}
use Rattle.pam_compare.specs.inner.Nodes.{AreEndsOf, AreNodes, ArePlaces}
use Rattle.pam_compare.specs.inner.Turn.{first_of}
use Rattle.pam_compare.specs.Situations.{Comes, HasMoreSituations, IsKey, IsReached, Standing}
use Rattle.pam_compare.specs.inner.Trails.{Follows, IsTrail, answers_on}
use Rattle.pam_compare.specs.inner.Ways.{AreReached, AreUnique, AreWalked, IsNamingFor, step_of}
use Rattle.pam_compare.specs.declared.nodes.Way.{Way}
use Rattle.pam_compare.proofs.Allowed.{are-possible}
use Rattle.pam_compare.proofs.Placing.{key_in, place-key, same-rest}
use Rattle.pam_compare.proofs.Stepping.{one-node}
use Rattle.pam_compare.proofs.Trails.{one-trail}
use Rattle.pam_compare.proofs.Walking.{walk-at}
use Rattle.pam_compare.proofs.Growing.{nothing, same-some}
use Rattle.pam_compare.proofs.Lists.{listed-for}
use Rattle.pam_compare.proofs.Reaching.{possible-on}
use Rattle.pam_compare.proofs.Standing.{AreOneEach, IsInside, all-at, are-apart, stand}

head-of : {X : Type 0} (xs : List X) → 0 < length xs → (x : X) × (slice_get xs 0 ≡ Some x)
head-of [] h = absurd (omega arith)
head-of (x ∷ xs) h = (x, refl)

-- an element of a list that is mapped
mapped-at : {X Y : Type 0} (f : X → Y) (xs : List X) (k : ℕ) (y : Y) → slice_get (map f xs) k ≡ Some y → (x : X) × (slice_get xs k ≡ Some x) × (f x ≡ y)
mapped-at f [] k y at = absurd (nothing y at)
mapped-at f (x ∷ xs) zero y at = (x, refl, same-some (f x) y at)
mapped-at f (x ∷ xs) (suc k) y at = mapped-at f xs k y at

module _ (program : List FlatItem) (places : List Place) (keys : List KeyValue) (d : KeyValue) (are : ArePlaces program places keys) where
  -- the key of a place in a table
  key-is : (k : ℕ) (p : Place) → slice_get places k ≡ Some p → get_or keys k d ≡ key_of p
  key-is k p at =
      let stored = are.stored k p at in
      let within = slice_get_within keys k (key_of p) stored.key in
      same-some _ _ (sym (slice_get-get_or keys k d within) ∙ stored.key)

  key-rest : (k : ℕ) (p : Place) → slice_get places k ≡ Some p → rest_at program (get_or keys k d) ≡ rest_of program p
  key-rest k p at = ap (rest_at program) (key-is k p at) ∙ (are.stored k p at).rest

  key-at : (k : ℕ) (p : Place) → slice_get places k ≡ Some p → rest_of program p ≡ rest_at program (key_in program (get_or keys k d))
  key-at k p at = sym (key-rest k p at) ∙ sym (same-rest program (get_or keys k d))

  key-good : (k : ℕ) (p : Place) → slice_get places k ≡ Some p → IsKey program (key_in program (get_or keys k d))
  key-good k p at =
      subst (λ (key : KeyValue). IsKey program (key_in program key)) (sym (key-is k p at)) (place-key program p (are.stored k p at).place)

  one-each : (last : List ℕ) (e : Place) → AreEndsOf program places last → AreOneEach program keys d
  one-each last e of i j first second asked same =
      let p : Place = get_or places i e in
      let q : Place = get_or places j e in
      let p_at = slice_get-get_or places i e (omega (arith, first, are.count)) in
      let q_at = slice_get-get_or places j e (omega (arith, second, are.count)) in
      of.single i j p q p_at q_at (sym (ap asked_module (key-rest i p p_at)) ∙ asked) (sym (key-rest i p p_at) ∙ same ∙ key-rest j q q_at)

module _ (old_allows new_allows : Allowance) (old new : List FlatItem) (partners : List (Option ℕ)) (names : List ℕ) (possible : List (List ℕ))
    (named : AreNames old_allows new_allows (modules_of old) (modules_of new) partners names)
    (exact : (a : Assignment) → IsPossible possible a → IsKnown old_allows new_allows (modules_of old) (modules_of new) names a) where
  -- an assignment to names is one to both stacks
  pub old-allowed : (a : Assignment) → IsPossible possible a → IsAllowed old_allows (modules_of old) a
  old-allowed a can m first last = let known = exact a can in (known.codes m, known.old m first last)

  pub new-allowed : (a : Assignment) → IsPossible possible a → IsAllowed new_allows (modules_of new) (by_name names a)
  new-allowed a can m first last = let known = exact a can in (known.codes (name_of names m), known.new m first last)

  pub names-agree : (a : Assignment) → Agree old_allows new_allows (modules_of old) (modules_of new) partners a (by_name names a)
  unfolding Agree AreNames
  names-agree a i j positive most tied = ap a (sym ((named j positive most).tied i tied))

module _ (old_allows new_allows : Allowance) (old new : List FlatItem) (partners : List (Option ℕ)) (naming : Naming)
    (told : IsNamingFor old_allows new_allows old new partners naming) where
  module _ (nodes : Nodes) (base : Assignment) (can : IsPossible naming.possible.items base) (are : AreNodes old new nodes)
      (reached : AreReached old new naming.names.items naming.possible.items nodes) (walked : AreWalked old new naming nodes)
      (unique : AreUnique nodes.ways.items) where
    abbrev Reached : Standing → Type 0
    Reached = IsReached old_allows new_allows old new partners naming.names.items naming.possible.items (first_of naming.ranks)

    standing-reached : (d : KeyValue) (k : ℕ) (s : Situation) → slice_get nodes.situations.keys k ≡ Some s →
        Reached (stand old new nodes.old_places.keys nodes.new_places.keys nodes.held_lists.links.keys d s)
    unfolding AreWalked
    standing-reached d k s at =
        let names = naming.names.items in
        let r = reached.reached k s at in
        let way = r.way in
        let here : Standing = stand old new nodes.old_places.keys nodes.new_places.keys nodes.held_lists.links.keys d s in
        let walk = walk-at old new naming nodes k s r.node (walked k s at) r.is_at in
        let a : Assignment = answers_on base way.trail in
        let may : IsPossible naming.possible.items a = possible-on naming.possible.items base way.trail can way.fits in
        let follows = way.follows base in
        let same : way.trail ≡ walk.trail = one-trail nodes.ways.items k way.trail walk.trail way.is_trail walk.is_trail in
        let old_at = key-at old _ _ d are.of_old s.old r.node.old r.is_at.old in
        let new_at = key-at new _ _ d are.of_new s.new r.node.new r.is_at.new in
        let held_at = sym (listed-for nodes.held_lists.links.keys s.held s.held r.node.held (omega arith) r.is_at.held) in
        let After : Runs → Runs → List HeldAnswer → Type 0 =
        IsAfter old new names naming.possible.items (first_of naming.ranks) a (by_name names a) (map step_of walk.trail) in
        record {
          old_answers = a;
          new_answers = by_name names a;
          old_allowed = old-allowed old_allows new_allows old new partners naming.names.items naming.possible.items told.names told.exact a may;
          new_allowed = new-allowed old_allows new_allows old new partners naming.names.items naming.possible.items told.names told.exact a may;
          agree = names-agree old_allows new_allows old new partners naming.names.items naming.possible.items told.names told.exact a;
          old_key = key-good old _ _ d are.of_old s.old r.node.old r.is_at.old;
          new_key = key-good new _ _ d are.of_new s.new r.node.new r.is_at.new;
          old_comes = subst (Comes (runs_of old) a) old_at (way.old_comes a follows);
          new_comes = subst (Comes (runs_of new) (by_name names a)) new_at (way.new_comes a follows);
          holds = subst (Holds a) held_at (way.holds a follows);
          answers = map step_of walk.trail;
          after = subst (λ (x : Runs). After x (rest_at new here.new) here.held) old_at
              (subst (λ (x : Runs). After (rest_of old r.node.old) x here.held) new_at
              (subst (λ (l : List HeldAnswer). After (rest_of old r.node.old) (rest_of new r.node.new) l) held_at
              (walk.after a (subst (Follows a) same follows))));
        }

    -- a situation that is reached, with its trail
    abbrev IsTold : ℕ → Standing → Type 0
    IsTold k s = (r : Reached s) × (trail : List Way) × IsTrail nodes.ways.items k trail × (r.answers ≡ map step_of trail)

    standing-at : (d : KeyValue) (k : ℕ) (s : Standing) →
        slice_get (map (stand old new nodes.old_places.keys nodes.new_places.keys nodes.held_lists.links.keys d) nodes.situations.keys) k ≡ Some s → IsTold k s
    unfolding AreWalked standing-reached
    standing-at d k s at =
        let from = mapped-at (stand old new nodes.old_places.keys nodes.new_places.keys nodes.held_lists.links.keys d) nodes.situations.keys k s at in
        let r = reached.reached k from.0 from.1 in
        let walk = walk-at old new naming nodes k from.0 r.node (walked k from.0 from.1) r.is_at in
        subst (IsTold k) from.2 (standing-reached d k from.0 from.1, walk.trail, walk.is_trail, refl)

    pub many : (limit : ℕ) → limit < length nodes.situations.keys → IsDistinct same_situation nodes.situations.keys → AreDifferent nodes.old_places.keys →
        AreDifferent nodes.new_places.keys → IsDistinct same_link nodes.held_lists.links.keys → HasMoreSituations old_allows new_allows old new partners limit
    many limit more distinct old_keys new_keys distinct_links =
        let keys = nodes.situations.keys in
        let olds = nodes.old_places.keys in
        let news = nodes.new_places.keys in
        let links = nodes.held_lists.links.keys in
        let first = head-of keys (omega (arith, more)) in
        let node = (reached.reached 0 first.0 first.1).node in
        let d : KeyValue = key_of node.old in
        let f : Situation → Standing = stand old new olds news links d in
        let inside : AllByRecursion (IsInside old new olds news links d) keys =
        all-at (IsInside old new olds news links d) keys (λ k s at.
        let within = are.within k s at in
        let less = within.0 in
        let fewer = within.1 in
        (omega (arith, less, are.of_old.count), omega (arith, fewer, are.of_new.count), are.listed k s at)) in
        record {
          names = naming.names.items;
          possible = naming.possible.items;
          old_first = first_of naming.ranks;
          are_names = told.names;
          are_possible = are-possible old_allows new_allows (modules_of old) (modules_of new) naming.names.items naming.possible.items base can
              told.possible told.exact;
          standings = map f keys;
          more = subst (λ (n : ℕ). limit < n) (sym (length-map keys f)) more;
          apart = are-apart old new olds news links d old_keys new_keys (one-each old _ olds d are.of_old _ node.old are.old_ends)
              (one-each new _ news d are.of_new _ node.old are.new_ends) distinct_links keys inside distinct;
          reached = λ k s at. (standing-at d k s at).0;
          by_others = λ j k s t at there same.
              let one = standing-at d j s at in
              let other = standing-at d k t there in
              one-node nodes.ways.items unique j k one.1 other.1 one.2 other.2 (sym one.3 ∙ same ∙ other.3);
        }
