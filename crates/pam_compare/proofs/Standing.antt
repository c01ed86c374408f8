-- Different situations.
use Rattle.std.proofs.Common.{◌≡◌, ◌≢◌, ◌<◌, ◌∙◌, ◌&&◌, ℕ, zero, suc, false, eqb, eq-eqb, List, [], ◌∷◌, Option, Some, None}
use Rattle.std.proofs.Common.{get_or, length, map, ap, arith, refl, subst, sym}
use Rattle.std.specs.List.{AllByRecursion, AllPairs, IsDistinct}
use Rattle.std.specs.Prelude.{slice_get}
use Rattle.std.proofs.lemmas.Bool.{and_from, false≢true}
use Rattle.std.proofs.lemmas.List.Elements.{All-from_recursion}
use Rattle.std.proofs.lemmas.List.Kept.{AllPairs-cons}
use Rattle.std.proofs.lemmas.Map.Keys.{IsDistinct-head, IsDistinct-tail}
use Rattle.pam_dispatch.specs.declared.flat_item.FlatItem.{FlatItem}
use Rattle.pam_dispatch.specs.Keys.{AreDifferent, DiffersFrom, KeyValue, rest_at}
use Rattle.pam_dispatch.specs.Runs.{asked_module}
use Rattle.pam_compare.specs.declared.held.HeldAnswer.{HeldAnswer}
use Rattle.pam_compare.specs.declared.held_lists.Link.{Link}
use Rattle.pam_compare.specs.declared.situation.Situation.{Situation}
use Rattle.pam_compare.specs.Situations.{Standing}
use Rattle.pam_compare.specs.inner.Held.{same_situation}
use Rattle.pam_compare.specs.inner.HeldLists.{IsListed, same_link}
use Rattle.pam_compare.proofs.Placing.{asking-key, key_in, same-rest}
use Rattle.pam_compare.proofs.Lists.{list_for, listed-for, one-number}

pub all-at : {X : Type 0} (P : X → Type 0) (xs : List X) → ((k : ℕ) (x : X) → slice_get xs k ≡ Some x → P x) → AllByRecursion P xs
all-at P [] h = tt
all-at P (x ∷ xs) h = (h 0 x refl, all-at P xs (λ k y at. h (suc k) y at))

pub all-map : {X Y : Type 0} (P : X → Type 0) (Q : Y → Type 0) (f : X → Y) → ((x : X) → P x → Q (f x)) → (xs : List X) → AllByRecursion P xs →
    AllByRecursion Q (map f xs)
all-map P Q f h [] all = tt
all-map P Q f h (x ∷ xs) all = (h x all.0, all-map P Q f h xs all.1)

-- KEYS

differs-at : (key d : KeyValue) (keys : List KeyValue) (j : ℕ) → DiffersFrom key keys → j < length keys → key ≢ get_or keys j d
unfolding DiffersFrom
differs-at key d [] j differs below = absurd (omega arith)
differs-at key d (other ∷ keys) zero differs below = differs.0
differs-at key d (other ∷ keys) (suc j) differs below = differs-at key d keys j differs.1 (omega (arith, below))

one-index : (d : KeyValue) (keys : List KeyValue) (i j : ℕ) → AreDifferent keys → i < length keys → j < length keys → get_or keys i d ≡ get_or keys j d →
    i ≡ j
unfolding AreDifferent
one-index d [] i j different first second e = absurd (omega arith)
one-index d (key ∷ keys) zero zero different first second e = refl
one-index d (key ∷ keys) zero (suc j) different first second e = absurd (differs-at key d keys j different.0 (omega (arith, second)) e)
one-index d (key ∷ keys) (suc i) zero different first second e = absurd (differs-at key d keys i different.0 (omega (arith, first)) (sym e))
one-index d (key ∷ keys) (suc i) (suc j) different first second e =
    ap (λ (n : ℕ). suc n) (one-index d keys i j different.1 (omega (arith, first)) (omega (arith, second)) e)

-- SITUATIONS

-- keys at which the run ends in one state have one index
abbrev pub AreOneEach : List FlatItem → List KeyValue → KeyValue → Type 0
AreOneEach program keys d =
    (i j : ℕ) → i < length keys → j < length keys → asked_module (rest_at program (get_or keys i d)) ≡ None →
    rest_at program (get_or keys i d) ≡ rest_at program (get_or keys j d) → i ≡ j

one-place : (program : List FlatItem) (d : KeyValue) (keys : List KeyValue) (i j : ℕ) → AreDifferent keys → AreOneEach program keys d → i < length keys →
    j < length keys → key_in program (get_or keys i d) ≡ key_in program (get_or keys j d) → i ≡ j
one-place program d keys i j different one first second e = go (asked_module (rest_at program (get_or keys i d))) refl
  where
    same : rest_at program (get_or keys i d) ≡ rest_at program (get_or keys j d)
    same = sym (same-rest program (get_or keys i d)) ∙ ap (rest_at program) e ∙ same-rest program (get_or keys j d)

    go : (o : Option ℕ) → asked_module (rest_at program (get_or keys i d)) ≡ o → i ≡ j
    go None asked = one i j first second asked same
    go (Some n) asked =
        one-index d keys i j different first second
        (sym (asking-key program (get_or keys i d) n asked) ∙ e ∙ asking-key program (get_or keys j d) n (sym (ap asked_module same) ∙ asked))

module _ (old new : List FlatItem) (olds news : List KeyValue) (links : List Link) (d : KeyValue) where
  abbrev pub stand : Situation → Standing
  stand s = record { old = key_in old (get_or olds s.old d); new = key_in new (get_or news s.new d); held = list_for links s.held s.held }

  abbrev pub IsInside : Situation → Type 0
  IsInside s = (s.old < length olds) × (s.new < length news) × ((held : List HeldAnswer) × IsListed links s.held held)

  module _ (old_keys : AreDifferent olds) (new_keys : AreDifferent news) (old_each : AreOneEach old olds d) (new_each : AreOneEach new news d)
      (distinct_links : IsDistinct same_link links) where
    stand-apart : (s t : Situation) → IsInside s → IsInside t → same_situation s t ≡ false → stand s ≢ stand t
    stand-apart s t first second apart e =
        let old_same = one-place old d olds s.old t.old old_keys old_each first.0 second.0 (ap (λ (x : Standing). x.old) e) in
        let new_same = one-place new d news s.new t.new new_keys new_each first.1 second.1 (ap (λ (x : Standing). x.new) e) in
        let one = first.2 in
        let other = second.2 in
        let lists : one.0 ≡ other.0 =
        sym (listed-for links s.held s.held one.0 (omega arith) one.1) ∙ ap (λ (x : Standing). x.held) e
        ∙ listed-for links t.held t.held other.0 (omega arith) other.1 in
        let held : s.held ≡ t.held =
        one-number links s.held t.held other.0 distinct_links (subst (IsListed links s.held) lists one.1) other.1 in
        false≢true (sym apart
        ∙ and_from (eqb s.old t.old) (eqb s.new t.new && eqb s.held t.held) (eq-eqb s.old t.old old_same)
        (and_from (eqb s.new t.new) (eqb s.held t.held) (eq-eqb s.new t.new new_same) (eq-eqb s.held t.held held)))

    each-apart : (s : Situation) (rest : List Situation) → IsInside s → AllByRecursion IsInside rest →
        AllByRecursion (λ t. same_situation s t ≡ false) rest → AllByRecursion (λ x. stand s ≢ x) (map stand rest)
    each-apart s [] first inside apart = tt
    each-apart s (t ∷ rest) first inside apart =
        (stand-apart s t first inside.0 apart.0, each-apart s rest first inside.1 apart.1)

    pub are-apart : (situations : List Situation) → AllByRecursion IsInside situations → IsDistinct same_situation situations →
        AllPairs (λ one other. one ≢ other) (map stand situations)
    are-apart [] inside distinct = λ i j d before within. absurd (omega (arith, within))
    are-apart (s ∷ rest) inside distinct =
        AllPairs-cons (λ one other. one ≢ other) (stand s) (map stand rest)
        (All-from_recursion (λ x. stand s ≢ x) (map stand rest) (each-apart s rest inside.0 inside.1 (IsDistinct-head same_situation s rest distinct)))
        (are-apart rest inside.1 (IsDistinct-tail same_situation s rest distinct))
