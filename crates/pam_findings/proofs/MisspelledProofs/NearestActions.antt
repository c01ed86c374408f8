-- The words after `=`: numbers, and the nearest action.
use Rattle.std.proofs.Common.{◌≡◌, ◌∙◌, ◌+◌, ℕ, Bool, true, false, List, [], ◌∷◌, ◌++◌, Option, Some, None}
use Rattle.std.proofs.Common.{ap, append_assoc, codes, drop, find, inl, inr, not, refl, sym, take}
use Rattle.std.proofs.lemmas.Bool.{false≢true}
use Rattle.std.proofs.lemmas.List.{drop_more}
use Rattle.std.proofs.lemmas.Option.{get_or_from_slice_get, slice_get-map, slice_get_within}
use Rattle.std.specs.List.{list_all}
use Rattle.std.specs.Option.{option_and_then, option_map, option_map_or}
use Rattle.std.specs.Prelude.{◌==◌, ◌&&◌, nat_le, slice_get, slice_index_or}
use Rattle.std.specs.Str.{bytes_eq}
use Rattle.pam_spelling.proofs.Nearing.{nearer_within}
use Rattle.pam_spelling.proofs.Typing.{decided}
use Rattle.pam_spelling.specs.Laws.{IsNearer, Listed, first, later}
use Rattle.pam_spelling.specs.Nearest.{allowed_errors, nearest}
use Rattle.pam_findings.specs.misspelled.Actions.{after_sign, digits_of, nearest_action, number_words, numbers, other_actions, unless_number}
use Rattle.pam_findings.proofs.MisspelledProofs.NearestNames.{one_word}

abbrev pub Number : Type 0
Number = List ℕ × List ℕ

-- NUMBERS

abbrev pub digits_from : List ℕ → List Number → Option (List ℕ)
digits_from word rows = option_map (λ number. number.1) (find (λ number. bytes_eq number.0 word) rows)

row_left : (place : ℕ) (row : Number) → slice_get numbers place ≡ Some row → drop place numbers ≡ row ∷ drop (place + 1) numbers
row_left place row got =
    drop_more numbers place row (slice_get_within numbers place row got)
    ∙ ap (λ (r : Number). r ∷ drop (place + 1) numbers) (get_or_from_slice_get numbers place row row got)

-- the number at a place has this word
pub word_here : (place : ℕ) (row : Number) (word : List ℕ) (all : Option (List ℕ)) → slice_get numbers place ≡ Some row →
    all ≡ digits_from word (drop place numbers) → bytes_eq row.0 word ≡ true → Some row.1 ≡ all
word_here place row word all got same is = sym (same ∙ ap (digits_from word) (row_left place row got) ∙ rw is refl)

-- or has another one
pub word_later : (place : ℕ) (row : Number) (word : List ℕ) (all : Option (List ℕ)) → slice_get numbers place ≡ Some row →
    all ≡ digits_from word (drop place numbers) → bytes_eq row.0 word ≡ false → all ≡ digits_from word (drop (place + 1) numbers)
word_later place row word all got same other = same ∙ ap (digits_from word) (row_left place row got) ∙ rw other refl

pub no_word : (word : List ℕ) (all : Option (List ℕ)) → all ≡ digits_from word (drop 20 numbers) → None ≡ all
unfolding numbers
no_word word all same = sym same

pub name-is : (place : ℕ) (row : Number) → slice_get numbers place ≡ Some row → slice_get number_words place ≡ Some row.0
name-is place row got = slice_get-map (λ number. number.0) numbers place ∙ ap (option_map (λ (number : Number). number.0)) got

-- one more word after the other actions
pub one_more_word : (place : ℕ) (before : List (List ℕ)) (word : List ℕ) → before ≡ other_actions ++ take place number_words →
    slice_get number_words place ≡ Some word → before ++ word ∷ [] ≡ other_actions ++ take (place + 1) number_words
one_more_word place before word e got =
    ap (λ (l : List (List ℕ)). l ++ word ∷ []) e ∙ append_assoc other_actions (take place number_words) (word ∷ [])
    ∙ ap (λ (l : List (List ℕ)). other_actions ++ l) (one_word number_words place (take place number_words) word refl got)

pub all-are : (before : List (List ℕ)) (done : List ℕ) → before ≡ other_actions ++ take 20 number_words → done ≡ codes "done" →
    before ++ done ∷ [] ≡ after_sign
unfolding numbers
all-are before done e f = rw (e, f) refl

pub none-are : (a b c d e : List ℕ) → a ≡ codes "ignore" → b ≡ codes "bad" → c ≡ codes "die" → d ≡ codes "ok" → e ≡ codes "reset" →
    a ∷ b ∷ c ∷ d ∷ e ∷ [] ≡ other_actions ++ take 0 number_words
none-are a b c d e p q r s t = rw (p, q, r, s, t) refl

-- THE LAWS

pub numbers_first : (word digits : List ℕ) → digits_of word ≡ Some digits → nearest_action word ≡ Some digits
numbers_first word digits e = ap (λ (o : Option (List ℕ)). option_map_or Some o (option_and_then unless_number (nearest after_sign word))) e

none_is_some : {x : List ℕ} → None ≡ Some x → ⊥
none_is_some h = false≢true (ap (λ (o : Option (List ℕ)). elim o [ None ↦ false | Some y ↦ true ]) h)

some_is : {w v : List ℕ} → Some w ≡ Some v → w ≡ v
some_is {w = w} h = ap (λ (o : Option (List ℕ)). elim o [ None ↦ w | Some y ↦ y ]) h

and_left : (p q : Bool) → (p && q) ≡ true → p ≡ true
and_left true q h = refl
and_left false q h = h

and_right : (p q : Bool) → (p && q) ≡ true → q ≡ true
and_right true q h = h
and_right false q h = absurd (false≢true h)

-- digits begin below the letters
begins_low : List ℕ → Bool
begins_low text = nat_le (slice_index_or text 0 0) 57

low_digits : (p : Number → Bool) (rows : List Number) (digits : List ℕ) → list_all (λ (row : Number). begins_low row.1) rows ≡ true →
    option_map (λ (row : Number). row.1) (find p rows) ≡ Some digits → begins_low digits ≡ true
low_digits p [] digits low h = absurd (none_is_some h)
low_digits p (row ∷ rows) digits low h = elim (decided (p row)) [
  | inl k ↦
      let e : row.1 ≡ digits = some_is (sym (rw k refl) ∙ h) in
      sym (ap begins_low e) ∙ and_left (begins_low row.1) (list_all (λ (r : Number). begins_low r.1) rows) low
  | inr k ↦
      low_digits p rows digits (and_right (begins_low row.1) (list_all (λ (r : Number). begins_low r.1) rows) low) (sym (rw k refl) ∙ h)
]

all_low : list_all (λ (row : Number). begins_low row.1) numbers ≡ true
unfolding numbers begins_low
all_low = refl

done_is_high : begins_low (codes "done") ≡ false
unfolding begins_low
done_is_high = refl

no_digits : (word digits : List ℕ) → digits_of word ≡ Some digits → digits ≡ codes "done" → ⊥
no_digits word digits e same =
    false≢true (sym done_is_high ∙ sym (ap begins_low same) ∙ low_digits (λ (row : Number). bytes_eq row.0 word) numbers digits all_low e)

-- a word that begins as `done` does
begins_done : List ℕ → Bool
begins_done word = (slice_index_or word 0 0 == 100) && (slice_index_or word 1 0 == 111)

listed_all : (p : List ℕ → Bool) (words : List (List ℕ)) (word : List ℕ) → list_all p words ≡ true → Listed word words → p word ≡ true
listed_all p [] word h l = elim l [ ]
listed_all p (w ∷ words) _ h (first _ _) = and_left (p w) (list_all p words) h
listed_all p (w ∷ words) word h (later _ _ _ l) = listed_all p words word (and_right (p w) (list_all p words) h) l

none_begins : list_all (λ (w : List ℕ). not (begins_done w)) (other_actions ++ number_words) ≡ true
unfolding numbers begins_done
none_begins = refl

done_begins : not (begins_done (codes "done")) ≡ false
unfolding begins_done
done_begins = refl

-- `done` is none of the words before it
done_is_new : Listed (codes "done") (other_actions ++ number_words) → ⊥
done_is_new l =
    false≢true (sym done_begins ∙ listed_all (λ (w : List ℕ). not (begins_done w)) (other_actions ++ number_words) (codes "done") none_begins l)

nearer : (word : List ℕ) → nearest after_sign word ≡ Some (codes "done") → IsNearer (other_actions ++ number_words) word (codes "done")
unfolding nearest
nearer word h = nearer_within (allowed_errors word) (other_actions ++ number_words) [] word (codes "done") h done_is_new

kept : (word found : List ℕ) (digits : Option (List ℕ)) → nearest after_sign word ≡ Some found →
    option_map_or (λ d. None) digits (Some found) ≡ Some (codes "done") → IsNearer (other_actions ++ number_words) word (codes "done")
kept word found (Some d) e h = absurd (none_is_some h)
kept word found None e h = nearer word (e ∙ h)

near : (word : List ℕ) (found : Option (List ℕ)) → nearest after_sign word ≡ found → option_and_then unless_number found ≡ Some (codes "done") →
    IsNearer (other_actions ++ number_words) word (codes "done")
near word None e h = absurd (none_is_some h)
near word (Some found) e h = kept word found (digits_of found) e h

from_digits : (word : List ℕ) (digits : Option (List ℕ)) → digits_of word ≡ digits →
    option_map_or Some digits (option_and_then unless_number (nearest after_sign word)) ≡ Some (codes "done") →
    IsNearer (other_actions ++ number_words) word (codes "done")
from_digits word (Some digits) e h = absurd (no_digits word digits e (some_is h))
from_digits word None e h = near word (nearest after_sign word) refl h

pub done_is_nearer : (word : List ℕ) → nearest_action word ≡ Some (codes "done") → IsNearer (other_actions ++ number_words) word (codes "done")
done_is_nearer word h = from_digits word (digits_of word) refl h
