-- Texts that stand for themselves in a string.
use Rattle.std.proofs.Common.{◌≡◌, ◌∙◌, ℕ, ◌+◌, ◌/◌, ◌%◌, ◌<◌, ◌≤◌, ◌==◌, ◌&&◌, not, nat_le, nat_lt, Bool, true, false, zero, suc, List, [], ◌∷◌}
use Rattle.std.proofs.Common.{◌++◌, ap, arith, decimal, le-leb, refl}
use Rattle.std.proofs.lemmas.Bool.{and_from, and_parts, cond_both, false≢true, le-ltb, leb-true, lt-ltb}
use Rattle.std.specs.Fmt.{digit_glyph, digits, digits_onto}
use Rattle.std.specs.List.{list_all}
use Rattle.json.specs.Print.{escape, escape_byte, quoted}
use Rattle.pam_text.proofs.TextSteps.{unequal}

-- a byte with no escape
abbrev pub is_plain : ℕ → Bool
is_plain byte = nat_le 32 byte && (not (byte == 34) && not (byte == 92))

abbrev pub ArePlain : List ℕ → Type 0
ArePlain text = list_all is_plain text ≡ true

not-true : (b : Bool) → not b ≡ true → b ≡ false
not-true true h = absurd (false≢true h)
not-true false h = refl

byte-plain : (byte : ℕ) → is_plain byte ≡ true → escape_byte byte ≡ byte ∷ []
unfolding escape_byte
byte-plain byte h =
    let parts = and_parts (nat_le 32 byte) (not (byte == 34) && not (byte == 92)) h in
    let others = and_parts (not (byte == 34)) (not (byte == 92)) parts.1 in
    let low : 32 ≤ byte = leb-true 32 byte parts.0 in
    rw (
      not-true (byte == 34) others.0,
      not-true (byte == 92) others.1,
      unequal byte 8 (λ q. omega (arith, q, low)),
      unequal byte 12 (λ q. omega (arith, q, low)),
      unequal byte 10 (λ q. omega (arith, q, low)),
      unequal byte 13 (λ q. omega (arith, q, low)),
      unequal byte 9 (λ q. omega (arith, q, low)),
    )
    (let high : nat_lt byte 32 ≡ false = le-ltb byte 32 low in rw high refl)

pub escape-plain : (text : List ℕ) → ArePlain text → escape text ≡ text
escape-plain [] h = refl
escape-plain (b ∷ bs) h =
    let parts = and_parts (is_plain b) (list_all is_plain bs) h in
    ap (λ l. l ++ escape bs) (byte-plain b parts.0) ∙ ap (λ l. b ∷ l) (escape-plain bs parts.1)

-- such a text as a string
pub quoted-plain : (text : List ℕ) → ArePlain text → quoted text ≡ 34 ∷ (text ++ 34 ∷ [])
quoted-plain text h = ap (λ l. 34 ∷ (l ++ 34 ∷ [])) (escape-plain text h)

pub plain-append : (a b : List ℕ) → ArePlain a → ArePlain b → ArePlain (a ++ b)
plain-append [] b h k = k
plain-append (x ∷ xs) b h k =
    let parts = and_parts (is_plain x) (list_all is_plain xs) h in
    and_from (is_plain x) (list_all is_plain (xs ++ b)) parts.0 (plain-append xs b parts.1 k)

digit-plain : (d : ℕ) → d < 10 → is_plain (digit_glyph false d) ≡ true
digit-plain d h =
    let ne : (m : ℕ) → 58 ≤ m → ((48 + d) == m) ≡ false = λ m g. unequal (48 + d) m (λ q. omega (arith, q, g, h)) in
    let plain : is_plain (48 + d) ≡ true =
    and_from (nat_le 32 (48 + d)) (not ((48 + d) == 34) && not ((48 + d) == 92)) (le-leb 32 (48 + d) (omega arith))
    (and_from (not ((48 + d) == 34)) (not ((48 + d) == 92)) (ap not (unequal (48 + d) 34 (λ q. omega (arith, q)))) (ap not (ne 92 (omega arith)))) in
    rw (lt-ltb d 10 h) plain

digits-plain : (k n : ℕ) (acc : List ℕ) → ArePlain acc → ArePlain (digits_onto k 10 false n acc)
digits-plain zero n acc h = h
digits-plain (suc k) n acc h =
    let more : ArePlain (digit_glyph false (n % 10) ∷ acc) =
    and_from (is_plain (digit_glyph false (n % 10))) (list_all is_plain acc) (digit-plain (n % 10) (omega arith)) h in
    cond_both (n / 10 == 0) (digit_glyph false (n % 10) ∷ acc) (digits_onto k 10 false (n / 10) (digit_glyph false (n % 10) ∷ acc)) ArePlain (λ _. more)
    (λ _. digits-plain k (n / 10) (digit_glyph false (n % 10) ∷ acc) more)

-- a number has digits alone
pub decimal-plain : (n : ℕ) → ArePlain (decimal n)
unfolding digits
decimal-plain n = digits-plain 64 n [] refl
