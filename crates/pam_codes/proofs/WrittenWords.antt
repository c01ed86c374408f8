-- The words of a written control are the tokens that are read.
use Rattle.std.proofs.Common.{◌≡◌, ◌<◌, ◌≤◌, ◌+◌, ◌-◌, ◌*◌, ◌/◌, ◌%◌, ◌^◌, ◌∙◌, ◌&&◌, ◌||◌, ◌==◌}
use Rattle.std.proofs.Common.{ℕ, Bool, true, false, not, List, [], ◌∷◌, ◌++◌}
use Rattle.std.proofs.Common.{length, cond, eqb, map, Ok, ap, refl, arith, decimal}
use Rattle.std.specs.List.{onto_first, list_all}
use Rattle.std.specs.Char.{is_ascii_digit, to_ascii_lowercase}
use Rattle.std.specs.Str.{bytes_eq}
use Rattle.std.proofs.lemmas.Bool.{and_parts, lt-ltb, le-leb}
use Rattle.std.proofs.lemmas.List.Sums.{fold-append}
use Rattle.std.proofs.lemmas.Fmt.{decimal_by_steps, length-decimal-le}
use Rattle.pam_codes.specs.declared.action.Action.{Action}
use Rattle.pam_codes.specs.declared.action.Action.TheVariants.{Ignore, Ok as Accept, Done, Bad, Die, Reset, Jump}
use Rattle.pam_codes.specs.declared.subject.Subject.{Subject}
use Rattle.pam_codes.specs.Action.{IsAction, decimal_value, is_jump_text, action_named, action_text}
use Rattle.pam_codes.specs.Control.{pairs_of, with_front}
use Rattle.pam_codes.specs.inner.SetBits.{eqb-other}
use Rattle.pam_codes.specs.Subject.{subject_of}
use Rattle.pam_codes.specs.Tokens.{is_word_byte, begins_word, tokens_of}
use Rattle.pam_codes.proofs.PairSteps.{whole_pair}
use Rattle.pam_codes.proofs.TokensOf.{tokens_of-word_byte, tokens_of-equals}

-- a byte that is not a closing bracket, and does not escape one
abbrev pub is_plain : ℕ → Bool
is_plain b = not (b == 93 || b == 92)

abbrev pub is_written : ℕ → Bool
is_written b = is_word_byte b && is_plain b

-- a name or an action as it is written
pub record IsWord (word : List ℕ) : Type 0 where
  pub some : 0 < length word
  pub bytes : list_all is_written word ≡ true

-- a leading word is a token, if no word continues after it
tokens_of-front : (word rest : List ℕ) → 0 < length word → list_all is_written word ≡ true → begins_word rest ≡ false
    → tokens_of (word ++ rest) ≡ word ∷ tokens_of rest
tokens_of-front [] rest n h e = absurd (omega arith)
tokens_of-front (b ∷ []) rest n h e =
    let here : is_word_byte b ≡ true = (and_parts (is_word_byte b) (is_plain b) (and_parts (is_written b) true h).0).0 in
    tokens_of-word_byte b rest here ∙ ap (λ (t : Bool). cond t (onto_first b (tokens_of rest)) ((b ∷ []) ∷ tokens_of rest)) e
tokens_of-front (b ∷ c ∷ word) rest n h e =
    let parts = and_parts (is_written b) (list_all is_written (c ∷ word)) h in
    let here : is_word_byte b ≡ true = (and_parts (is_word_byte b) (is_plain b) parts.0).0 in
    let next : is_word_byte c ≡ true = (and_parts (is_word_byte c) (is_plain c) (and_parts (is_written c) (list_all is_written word) parts.1).0).0 in
    tokens_of-word_byte b (c ∷ (word ++ rest)) here
    ∙ ap (λ (t : Bool). cond t (onto_first b (tokens_of (c ∷ (word ++ rest)))) ((b ∷ []) ∷ tokens_of (c ∷ (word ++ rest)))) next
    ∙ ap (onto_first b) (tokens_of-front (c ∷ word) rest (omega arith) parts.1 e)

-- a leading pair is read
pub pair_read : (name word rest : List ℕ) (s : Subject) (a : Action) → IsWord name → IsWord word → subject_of name ≡ Ok s → action_named word ≡ Ok a
    → begins_word rest ≡ false → pairs_of (tokens_of (name ++ 61 ∷ (word ++ rest))) ≡ with_front (s, a) (pairs_of (tokens_of rest))
pair_read name word rest s a n w hs ha e =
    let tokens : tokens_of (name ++ 61 ∷ (word ++ rest)) ≡ name ∷ (61 ∷ []) ∷ word ∷ tokens_of rest =
    tokens_of-front name (61 ∷ (word ++ rest)) n.some n.bytes refl
    ∙ ap (λ (ts : List (List ℕ)). name ∷ ts)
    (tokens_of-equals (word ++ rest) ∙ ap (λ (ts : List (List ℕ)). (61 ∷ []) ∷ ts) (tokens_of-front word rest w.some w.bytes e)) in
    ap pairs_of tokens ∙ whole_pair name (61 ∷ []) word _ _ (tokens_of rest) s a hs refl refl refl ha

-- DIGITS

pub record IsDigit (b : ℕ) : Type 0 where
  pub low : 48 ≤ b
  pub high : b ≤ 57

abbrev pub AreDigits : List ℕ → Type 0
AreDigits [] = Unit {0}
AreDigits (b ∷ bs) = IsDigit b × AreDigits bs

pub record Spells (n : ℕ) (digits : List ℕ) : Type 0 where
  pub digits_only : AreDigits digits
  pub value : decimal_value digits ≡ n
  pub some : 0 < length digits

AreDigits-push : (ds : List ℕ) (d : ℕ) → AreDigits ds → IsDigit d → AreDigits (ds ++ d ∷ [])
AreDigits-push [] d h e = (e, tt)
AreDigits-push (b ∷ ds) d h e = (h.0, AreDigits-push ds d h.1 e)

spells_one : (n : ℕ) → n < 10 → Spells n ((48 + n) ∷ [])
spells_one n h = record { digits_only = (record { low = omega arith; high = omega arith }, tt); value = omega arith; some = omega arith }

last_digit : (n front value : ℕ) → front ≡ n / 10 → value ≡ 10 * front + (48 + n % 10 - 48) → value ≡ n
last_digit n front value e f = omega arith

length-push : (ds : List ℕ) (d : ℕ) → 0 < length (ds ++ d ∷ [])
length-push [] d = omega arith
length-push (b ∷ ds) d = omega arith

spells_more : (n : ℕ) (ds : List ℕ) → 10 ≤ n → Spells (n / 10) ds → Spells n (ds ++ ((48 + n % 10) ∷ []))
spells_more n ds h s = record {
  digits_only = AreDigits-push ds (48 + n % 10) s.digits_only (record { low = omega arith; high = omega arith });
  value =
      last_digit n (decimal_value ds) (decimal_value (ds ++ ((48 + n % 10) ∷ []))) s.value
      (fold-append (λ n d. 10 * n + (d - 48)) 0 ds ((48 + n % 10) ∷ []));
  some = length-push ds (48 + n % 10);
}

pub decimal-spells : (n : ℕ) → n < 2 ^ 64 → Spells n (decimal n)
decimal-spells n h = decimal_by_steps Spells spells_one spells_more n h

written_digit : (b : ℕ) → IsDigit b → is_written b ≡ true
written_digit b h =
    let low = h.low in let high = h.high in
    rw (
      eqb-other b 32 (omega arith),
      eqb-other b 9 (omega arith),
      eqb-other b 13 (omega arith),
      eqb-other b 61 (omega arith),
      eqb-other b 93
          (omega arith),
      eqb-other b 92 (omega arith),
    )
    refl

written_digits : (ds : List ℕ) → AreDigits ds → list_all is_written ds ≡ true
written_digits [] h = refl
written_digits (b ∷ ds) h = ap (λ (t : Bool). t && list_all is_written ds) (written_digit b h.0) ∙ written_digits ds h.1

ascii_digits : (ds : List ℕ) → AreDigits ds → list_all is_ascii_digit ds ≡ true
ascii_digits [] h = refl
ascii_digits (b ∷ ds) h =
    let low = h.0.low in let high = h.0.high in
    rw (le-leb 48 b low, le-leb b 57 high) (ascii_digits ds h.1)

-- no letter is a digit
lower_digit : (letter b : ℕ) → 97 ≤ letter → IsDigit b → eqb letter (to_ascii_lowercase b) ≡ false
lower_digit letter b h d =
    let high = d.high in
    rw (lt-ltb b 65 (omega arith)) (eqb-other letter b (omega arith))

other_name : (letter : ℕ) (letters digits : List ℕ) → 97 ≤ letter → 0 < length digits → AreDigits digits
    → bytes_eq (letter ∷ letters) (map to_ascii_lowercase digits) ≡ false
other_name letter letters [] h n d = absurd (omega arith)
other_name letter letters (b ∷ digits) h n d = ap (λ (t : Bool). t && bytes_eq letters (map to_ascii_lowercase digits)) (lower_digit letter b h d.0)

jump_text : (digits : List ℕ) → AreDigits digits → 0 < length digits → length digits < 10 → is_jump_text digits ≡ true
jump_text digits d n h = rw (lt-ltb 0 (length digits) n, lt-ltb (length digits) 10 h) (ascii_digits digits d)

-- the digits of a jump are read as that jump
jump_read : (items : ℕ) (digits : List ℕ) → Spells items digits → length digits < 10 → 0 < items → action_named digits ≡ Ok (Jump items)
unfolding action_named
jump_read items digits s few some =
    let other : (letter : ℕ) (letters : List ℕ) → 97 ≤ letter → bytes_eq (letter ∷ letters) (map to_ascii_lowercase digits) ≡ false =
    λ letter letters h. other_name letter letters digits h s.some s.digits_only in
    let value = s.value in
    rw (
      other 105 (103 ∷ 110 ∷ 111 ∷ 114 ∷ 101 ∷ []) (omega arith),
      other 98 (97 ∷ 100 ∷ []) (omega arith),
      other 100 (105 ∷ 101 ∷ [])
          (omega arith),
      other 111 (107 ∷ []) (omega arith),
      other 100 (111 ∷ 110 ∷ 101 ∷ []) (omega arith),
      other 114 (101 ∷ 115 ∷ 101 ∷ 116 ∷ [])
          (omega arith),
      jump_text digits s.digits_only s.some few,
      value,
      eqb-other items 0 (omega arith),
    )
    refl

-- the text of an action is read as the action
pub action_read : (a : Action) → IsAction a → action_named (action_text a) ≡ Ok a
unfolding action_named
action_read Ignore h = refl
action_read Accept h = refl
action_read Done h = refl
action_read Bad h = refl
action_read Die h = refl
action_read Reset h = refl
action_read (Jump items) h =
    let some = h.0 in let most = h.1 in
    let few : length (decimal items) ≤ 9 = length-decimal-le 9 items (omega arith) (omega arith) (omega arith) in
    jump_read items (decimal items) (decimal-spells items (omega arith)) (omega arith) h.0

pub action_word : (a : Action) → IsAction a → IsWord (action_text a)
action_word Ignore h = record { some = omega arith; bytes = refl }
action_word Accept h = record { some = omega arith; bytes = refl }
action_word Done h = record { some = omega arith; bytes = refl }
action_word Bad h = record { some = omega arith; bytes = refl }
action_word Die h = record { some = omega arith; bytes = refl }
action_word Reset h = record { some = omega arith; bytes = refl }
action_word (Jump items) h =
    let most = h.1 in
    let s : Spells items (decimal items) = decimal-spells items (omega arith) in
    record { some = s.some; bytes = written_digits (decimal items) s.digits_only }
