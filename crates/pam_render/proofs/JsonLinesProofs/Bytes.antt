-- The bytes of strings.
use Rattle.std.proofs.Common.{◌≡◌, ℕ, ◌+◌, ◌/◌, ◌%◌, ◌==◌, ◌||◌, nat_le, nat_lt, true, List, [], ◌∷◌, ◌++◌, ap, arith, eqb-true, le-leb}
use Rattle.std.proofs.Common.{ltb-false, refl, ⊎_elim}
use Rattle.std.proofs.lemmas.Bool.{and_from, and_parts, cond_both, false≢true, or_cases}
use Rattle.std.specs.Char.{digit_char}
use Rattle.std.specs.List.{list_all}
use Rattle.json.specs.Print.{escape, escape_byte, escape_letter}
use Rattle.pam_render.specs.json_lines.Laws.{NoControlByte}

abbrev IsShown : ℕ → Type 0
IsShown byte = nat_le 32 byte ≡ true

abbrev AreShown : List ℕ → Type 0
AreShown text = list_all (nat_le 32) text ≡ true

shown-append : (a b : List ℕ) → AreShown a → AreShown b → AreShown (a ++ b)
shown-append [] b h k = k
shown-append (x ∷ xs) b h k =
    let parts = and_parts (nat_le 32 x) (list_all (nat_le 32) xs) h in
    and_from (nat_le 32 x) (list_all (nat_le 32) (xs ++ b)) parts.0 (shown-append xs b parts.1 k)

-- the letter of a short escape, if there is one
abbrev IsShownIfAny : ℕ → Type 0
IsShownIfAny letter = nat_lt 0 letter ≡ true → IsShown letter

own-shown : (x : ℕ) → ((x == 34) || (x == 92)) ≡ true → IsShownIfAny x
own-shown x e h = ⊎_elim (λ f. ap (nat_le 32) (eqb-true x 34 f)) (λ f. ap (nat_le 32) (eqb-true x 92 f)) (or_cases (x == 34) (x == 92) e)

letter-shown : (x : ℕ) → IsShownIfAny (escape_letter x)
letter-shown x =
    cond_both ((x == 34) || (x == 92)) x _ IsShownIfAny (own-shown x)
    (λ _. cond_both (x == 8) 98 _ IsShownIfAny (λ _ _. refl)
    (λ _. cond_both (x == 12) 102 _ IsShownIfAny (λ _ _. refl)
    (λ _. cond_both (x == 10) 110 _ IsShownIfAny (λ _ _. refl)
    (λ _. cond_both (x == 13) 114 _ IsShownIfAny (λ _ _. refl)
    (λ _. cond_both (x == 9) 116 0 IsShownIfAny (λ _ _. refl) (λ _ h. absurd (false≢true h)))))))

digit-shown : (d : ℕ) → IsShown (digit_char d)
digit-shown d =
    cond_both (nat_lt d 10) (48 + d) (87 + d) IsShown (λ _. le-leb 32 (48 + d) (omega arith)) (λ _. le-leb 32 (87 + d) (omega arith))

byte-shown : (x : ℕ) → AreShown (escape_byte x)
unfolding escape_byte
byte-shown x =
    cond_both (nat_lt 0 (escape_letter x)) (92 ∷ escape_letter x ∷ []) _ AreShown (λ h. and_from (nat_le 32 (escape_letter x)) true (letter-shown x h) refl)
    (λ _. cond_both (nat_lt x 32) _ (x ∷ []) AreShown
    (λ _. and_from (nat_le 32 (digit_char (x / 16))) _ (digit-shown (x / 16))
    (and_from (nat_le 32 (digit_char (x % 16))) true (digit-shown (x % 16)) refl))
    (λ h. and_from (nat_le 32 x) true (le-leb 32 x (ltb-false x 32 h)) refl))

escape-shown : (text : List ℕ) → AreShown (escape text)
escape-shown [] = refl
escape-shown (x ∷ xs) = shown-append (escape_byte x) (escape xs) (byte-shown x) (escape-shown xs)

pub no-control-byte : NoControlByte
no-control-byte text = shown-append (escape text) (34 ∷ []) (escape-shown text) refl
