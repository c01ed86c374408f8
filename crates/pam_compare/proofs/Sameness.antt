-- Answers and situations that are found to be equal.
use Rattle.std.proofs.Common.{◌≡◌, ◌<◌, ◌∙◌, ℕ, Bool, true, false, cond, eqb, List, ap, arith, refl, sym}
use Rattle.std.specs.Int.{bit_at}
use Rattle.std.specs.List.{range_with_len}
use Rattle.std.proofs.lemmas.Bool.{and_parts, eqb-true}
use Rattle.std.proofs.lemmas.List.FromFn.{get_or-map-range_with_len}
use Rattle.std.proofs.lemmas.Simd.{bit_mask_l}
use Rattle.std.specs.Prelude.{map}
use Rattle.pam_codes.specs.Code.{all_codes}
use Rattle.pam_codes.specs.Set.{IsCodeSet, is_in}
use Rattle.pam_codes.specs.SetBits.{codes_of_bits}
use Rattle.pam_codes.specs.inner.SetBits.{bits_of_codes, codes_where-same}
use Rattle.pam_compare.specs.declared.held.HeldAnswer.{HeldAnswer}
use Rattle.pam_compare.specs.declared.situation.Situation.{Situation}
use Rattle.pam_compare.specs.inner.Held.{same_held, same_situation}

bit-in : (codes : List ℕ) (c : ℕ) → c < 31 → bit_at (bits_of_codes codes) c ≡ cond (is_in c codes) 1 0
unfolding bits_of_codes all_codes
bit-in codes c low =
    let test : ℕ → Bool = λ code. is_in code codes in
    bit_mask_l (map test (range_with_len 0 31)) c
    ∙ ap (λ (t : Bool). cond t 1 0) (get_or-map-range_with_len test 0 31 c c false low (omega arith))

one-if : (t : Bool) → eqb (cond t 1 0) 1 ≡ t
one-if true = refl
one-if false = refl

pub codes-kept : (codes : List ℕ) → IsCodeSet codes → codes_of_bits (bits_of_codes codes) ≡ codes
unfolding codes_of_bits
codes-kept codes order =
    codes_where-same _ _ (λ code low. ap (λ (n : ℕ). eqb n 1) (bit-in codes code low) ∙ one-if (is_in code codes)) ∙ sym order

-- sets with the same bits are equal
pub codes-same : (xs ys : List ℕ) → IsCodeSet xs → IsCodeSet ys → bits_of_codes xs ≡ bits_of_codes ys → xs ≡ ys
codes-same xs ys first second e = sym (codes-kept xs first) ∙ ap codes_of_bits e ∙ codes-kept ys second

abbrev answer_of : ℕ → List ℕ → HeldAnswer
answer_of name codes = record { name = name; codes = codes }

pub answers-same : (one other : HeldAnswer) → IsCodeSet one.codes → IsCodeSet other.codes → same_held one other ≡ true → one ≡ other
answers-same one other first second t =
    let parts = and_parts (eqb one.name other.name) (eqb (bits_of_codes one.codes) (bits_of_codes other.codes)) t in
    let name : one.name ≡ other.name = eqb-true one.name other.name parts.0 in
    let codes = codes-same one.codes other.codes first second (eqb-true (bits_of_codes one.codes) (bits_of_codes other.codes) parts.1) in
    ap (λ (n : ℕ). answer_of n one.codes) name ∙ ap (answer_of other.name) codes

abbrev situation_of : ℕ → ℕ → ℕ → Situation
situation_of old new held = record { old = old; new = new; held = held }

pub same-is : (one other : Situation) → same_situation other one ≡ true → one ≡ other
same-is one other t =
    let first = and_parts (eqb other.old one.old) _ t in
    let second = and_parts (eqb other.new one.new) (eqb other.held one.held) first.1 in
    let old : one.old ≡ other.old = sym (eqb-true other.old one.old first.0) in
    let new : one.new ≡ other.new = sym (eqb-true other.new one.new second.0) in
    let held : one.held ≡ other.held = sym (eqb-true other.held one.held second.1) in
    ap (λ (n : ℕ). situation_of n one.new one.held) old ∙ ap (λ (n : ℕ). situation_of other.old n one.held) new
    ∙ ap (situation_of other.old other.new) held
