-- The right words.
use Rattle.std.proofs.Common.{◌≡◌, ◌∙◌, ◌+◌, ◌<◌, ◌≤◌, ◌++◌, ℕ, Bool, true, false, List, [], ◌∷◌, Some, None, Bor, append-nil}
use Rattle.std.proofs.Common.{arith, ap, codes, eqb, filter, length, map, min, refl, slice_get, sym, take}
use Rattle.std.proofs.lemmas.Bool.{eqb-false, eqb-true}
use Rattle.std.proofs.lemmas.List.{length-map, take-append-le, take_all, take_more}
use Rattle.std.proofs.lemmas.Option.{get_or_from_slice_get, slice_get-map, slice_get-get_or, slice_get_within}
use Rattle.std.specs.Option.{option_map}
use Rattle.pam_codes.specs.Code.{code_names}
use Rattle.pam_conf.specs.Files.{Named}
use Rattle.pam_findings.specs.misspelled.RightWords.{controls, kinds, values}

-- KINDS AND CONTROLS

pub kinds-are : (a b c d : List ℕ) → a ≡ codes "auth" → b ≡ codes "account" → c ≡ codes "password" → d ≡ codes "session" → a ∷ b ∷ c ∷ d ∷ [] ≡ kinds
kinds-are a b c d e f g h = rw (e, f, g, h) refl

pub controls-are : (a b c d e f : List ℕ) → a ≡ codes "required" → b ≡ codes "requisite" → c ≡ codes "sufficient" → d ≡ codes "optional"
    → e ≡ codes "include" → f ≡ codes "substack" → a ∷ b ∷ c ∷ d ∷ e ∷ f ∷ [] ≡ controls
controls-are a b c d e f p q r s t u = rw (p, q, r, s, t, u) refl

pub values-are : (words : List (List ℕ)) (n : ℕ) (one other : List ℕ) → words ≡ take n code_names → n ≡ 31 → one ≡ codes "incomplete"
    → other ≡ codes "default" → (words ++ one ∷ []) ++ other ∷ [] ≡ values
unfolding code_names
values-are words n one other e many f g = rw (e, many, f, g) refl

-- LISTS OF WORDS

-- the bytes of those words that pass a test
pub map_filter : (test : List ℕ → Bool) (words : List (Bor (List ℕ))) → map (λ w. w.now) (filter (λ w. test w.now) words)
    ≡ filter test (map (λ w. w.now) words)
map_filter test [] = refl
map_filter test (w ∷ words) = elim (test w.now) as (λ (t : Bool). test w.now ≡ t →
    map (λ w. w.now) (filter (λ w. test w.now) (w ∷ words)) ≡ filter test (map (λ w. w.now) (w ∷ words))) [
      | true ↦ λ e. rw e (ap (λ (ws : List (List ℕ)). w.now ∷ ws) (map_filter test words))
      | false ↦ λ e. rw e (map_filter test words)
    ] refl

-- one more word
pub one_word : (words : List (List ℕ)) (position : ℕ) (before : List (List ℕ)) (word : List ℕ) → before ≡ take position words
    → slice_get words position ≡ Some word → before ++ word ∷ [] ≡ take (position + 1) words
one_word words position before word e got =
    ap (λ (l : List (List ℕ)). l ++ word ∷ []) e
    ∙ ap (λ (w : List ℕ). take position words ++ w ∷ []) (sym (get_or_from_slice_get words position word word got))
    ∙ sym (take_more words position word (slice_get_within words position word got))

-- the first words, where others follow or none
pub first_words : (words others all : List (List ℕ)) (n : ℕ) → words ++ others ≡ all → length words ≡ n → words ≡ take n all
first_words words others all n e long =
    sym (take_all n words (omega (arith, long))) ∙ sym (take-append-le n words others (omega (arith, long))) ∙ ap (take n) e

pub few_words : (words all : List (List ℕ)) (n : ℕ) → words ++ [] ≡ all → length words ≤ n → words ≡ take n all
few_words words all n e few = sym (take_all n words few) ∙ ap (take n) (sym (append-nil words) ∙ e)

-- NAMES

module _ (entries : List Named) where
  abbrev pub names_of : List (List ℕ)
  names_of = map (λ f. f.0) entries

  -- one more name
  pub one_name : (position : ℕ) (before : List (List ℕ)) (name : List ℕ) → before ≡ take position names_of
      → Some name ≡ option_map (λ f. f.0) (slice_get entries position) → before ++ name ∷ [] ≡ take (position + 1) names_of
  one_name position before name e s =
      let got : slice_get names_of position ≡ Some name = slice_get-map (λ f. f.0) entries position ∙ sym s in
      one_word names_of position before name e got

  -- each position has a name
  pub some_name : (position : ℕ) → position < length entries → None ≡ option_map (λ f. f.0) (slice_get entries position) → ⊥
  some_name position within e =
      let got : slice_get entries position ≡ Some _ = slice_get-get_or entries position ([], []) within in
      absurd (cc (ap (option_map (λ (f : Named). f.0)) got))

  -- all of the first names
  pub all_names : (count most : ℕ) → count ≡ min (length entries) most → take count names_of ≡ take most names_of
  all_names count most e =
      elim (eqb count most) as (λ (t : Bool). eqb count most ≡ t → take count names_of ≡ take most names_of) [
        | true ↦ λ same. ap (λ (n : ℕ). take n names_of) (eqb-true count most same)
        | false ↦ λ other.
            let apart : count ≡ most → ⊥ = eqb-false count most other in
            let many : length names_of ≡ length entries = length-map entries (λ f. f.0) in
            take_all count names_of (omega (arith, e, apart, many)) ∙ sym (take_all most names_of (omega (arith, e, apart, many)))
      ] refl
