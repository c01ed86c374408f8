-- Bits of a mask, and of two numbers under it.
use Rattle.std.proofs.Common.{◌≡◌, ◌∙◌, ◌+◌, ◌-◌, ◌*◌, ◌<◌, ◌≤◌, ◌^◌, ◌&&◌, ◌||◌}
use Rattle.std.proofs.Common.{ℕ, zero, suc, min, not, Bool, true, false, List, [], ◌∷◌, ◌++◌}
use Rattle.std.proofs.Common.{replicate, eqb, nat_eq, nat_lt, refl, ap, ap₂, arith, eq-eqb, pow-add}
use Rattle.std.specs.Int.{bit_at}
use Rattle.std.specs.Int.Bits.{bit_and}
use Rattle.std.proofs.Math.Nat.{pow-suc}
use Rattle.std.proofs.lemmas.Bool.{eqb-true, eqb-false, ltb-true, ltb-false}
use Rattle.std.proofs.lemmas.Bool.Decides.{same_from_decides, Decides-eqb}
use Rattle.std.proofs.lemmas.Nat.Bits.{bit_at_and, bit_at-lt, bit_at_above, same_from_bits}
use Rattle.pam_tables.specs.Address.{number_from}
use Rattle.pam_tables.specs.Network.{ones, bit, bits_agree}

-- ---- ones at the highest places

ones_after : (n p : ℕ) → number_from 2 n (replicate p 1) + 1 ≡ (n + 1) * 2 ^ p
ones_after n zero = omega arith
ones_after n (suc p) = rw pow-suc (omega (arith, ones_after (n * 2 + 1) p))

zeros_after : (n q : ℕ) → number_from 2 n (replicate q 0) ≡ n * 2 ^ q
zeros_after n zero = omega arith
zeros_after n (suc q) = rw pow-suc (omega (arith, zeros_after (n * 2 + 0) q))

number_from-append : (base n : ℕ) (xs ys : List ℕ) → number_from base n (xs ++ ys) ≡ number_from base (number_from base n xs) ys
number_from-append base n [] ys = refl
number_from-append base n (x ∷ xs) ys = number_from-append base (n * base + x) xs ys

pub ones_is : (w p : ℕ) → p ≤ w → ones w p ≡ 2 ^ w - 2 ^ (w - p)
unfolding ones
ones_is w p h =
    let q : ℕ = w - p in
    let a : ℕ = number_from 2 0 (replicate p 1) in
    let all : a + 1 ≡ 2 ^ p = omega (arith, ones_after 0 p) in
    let sum : w ≡ p + q = omega arith in
    let powers : 2 ^ w ≡ 2 ^ p * 2 ^ q = ap (λ n. 2 ^ n) sum ∙ pow-add 2 p q in
    let product : (a + 1) * 2 ^ q ≡ 2 ^ p * 2 ^ q = ap (λ n. n * 2 ^ q) all in
    number_from-append 2 0 (replicate p 1) (replicate q 0) ∙ zeros_after a q ∙ omega arith

-- ---- two numbers under a mask

masked_same : (a b x y k : ℕ) → a ≡ min x k → b ≡ min y k → x < 2 → y < 2 → k < 2 → (k ≡ 1 → x ≡ y) → a ≡ b
masked_same a b x y k e f l m n h = grind arith

unmasked_same : (a b x y k : ℕ) → a ≡ min x k → b ≡ min y k → x < 2 → y < 2 → a ≡ b → k ≡ 1 → x ≡ y
unmasked_same a b x y k e f l m h g = omega arith

same_bits : (v u k : ℕ) → bit_and v k ≡ bit_and u k → (i : ℕ) → bit k i ≡ 1 → bit v i ≡ bit u i
same_bits v u k e i h =
    unmasked_same _ _ (bit_at v i) (bit_at u i) (bit_at k i) (bit_at_and v k i) (bit_at_and u k i) (bit_at-lt v i) (bit_at-lt u i) (ap (λ n. bit_at n i) e) h

from_bits : (v u k : ℕ) → ((i : ℕ) → bit k i ≡ 1 → bit v i ≡ bit u i) → bit_and v k ≡ bit_and u k
from_bits v u k h = same_from_bits (bit_and v k) (bit_and u k)
    (λ i. masked_same _ _ (bit_at v i) (bit_at u i) (bit_at k i) (bit_at_and v k i) (bit_at_and u k i) (bit_at-lt v i) (bit_at-lt u i) (bit_at-lt k i) (h i))

or_true : (a b : Bool) → (a || b) ≡ true → (a ≡ false) → b ≡ true
or_true true b h e = absurd (cc)
or_true false b h e = h

both : (a b : Bool) → (a && b) ≡ true → (a ≡ true) × (b ≡ true)
both true b h = (refl, h)
both false b h = absurd (cc)

at_place : (m x y : ℕ) → (not (eqb m 1) || eqb x y) ≡ true → m ≡ 1 → x ≡ y
at_place m x y h e = eqb-true x y (or_true (not (eqb m 1)) (eqb x y) h (rw e refl))

place_at : (m x y : ℕ) → (m ≡ 1 → x ≡ y) → (not (eqb m 1) || eqb x y) ≡ true
place_at m x y h = elim (eqb m 1) as (λ (t : Bool). eqb m 1 ≡ t → (not t || eqb x y) ≡ true) [
  | true ↦ λ e. eq-eqb x y (h (eqb-true m 1 e))
  | false ↦ λ e. refl
] refl

agree_below : (w v u k : ℕ) → bits_agree w v u k ≡ true → (i : ℕ) → i < w → bit k i ≡ 1 → bit v i ≡ bit u i
unfolding bits_agree
agree_below zero v u k h i l e = absurd (omega arith)
agree_below (suc w) v u k h i l e =
    let parts = both (not (eqb (bit k w) 1) || eqb (bit v w) (bit u w)) (bits_agree w v u k) h in
    elim (eqb i w) as (λ (t : Bool). eqb i w ≡ t → bit v i ≡ bit u i) [
      | true ↦ λ f. let same : i ≡ w = eqb-true i w f in rw same (at_place (bit k w) (bit v w) (bit u w) parts.0 (rw same at e))
      | false ↦ λ f. agree_below w v u k parts.1 i (omega (arith, eqb-false i w f)) e
    ] refl

from_below : (w v u k : ℕ) → ((i : ℕ) → i < w → bit k i ≡ 1 → bit v i ≡ bit u i) → bits_agree w v u k ≡ true
unfolding bits_agree
from_below zero v u k h = refl
from_below (suc w) v u k h =
    ap₂ (λ a b. a && b) (place_at (bit k w) (bit v w) (bit u w) (h w (omega arith))) (from_below w v u k (λ i l. h i (omega arith)))

pub masked_agree : (w v u k : ℕ) → k < 2 ^ w → nat_eq (bit_and v k) (bit_and u k) ≡ bits_agree w v u k
masked_agree w v u k small = same_from_decides _ _ (Decides-eqb (bit_and v k) (bit_and u k)) (
  λ h. from_bits v u k (λ i e. agree_below w v u k h i (below i e) e),
  λ h. from_below w v u k (λ i l e. same_bits v u k h i e),
)
  where
    below : (i : ℕ) → bit k i ≡ 1 → i < w
    below i e = elim (nat_lt i w) as (λ (t : Bool). nat_lt i w ≡ t → i < w) [
      | true ↦ λ f. ltb-true i w f
      | false ↦ λ f. absurd (omega (arith, bit_at_above k w i small (ltb-false i w f)))
    ] refl
