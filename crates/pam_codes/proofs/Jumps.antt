-- The texts of jumps.
use Rattle.std.proofs.Common.{◌≡◌, ◌<◌, ◌≤◌, ◌^◌, ◌&&◌, ℕ, true, List, length, arith, nat_lt}
use Rattle.std.specs.List.{list_all}
use Rattle.std.specs.Char.{is_ascii_digit}
use Rattle.std.proofs.lemmas.Bool.{and_parts, ltb-true}
use Rattle.std.proofs.Math.Nat.{pow-le-pow_right}
use Rattle.pam_codes.specs.Action.{is_jump_text}

-- the text of a jump has at most nine digits
pub jump_len : (w : List ℕ) → is_jump_text w ≡ true → length w < 10
jump_len w h =
    let lengths = (and_parts (nat_lt 0 (length w) && nat_lt (length w) 10) (list_all is_ascii_digit w) h).0 in
    ltb-true _ _ (and_parts (nat_lt 0 (length w)) (nat_lt (length w) 10) lengths).1

-- with at most eight digits a number is small
pub power_small : (i : ℕ) → i < 9 → 10 ^ i ≤ 100000000
power_small i h = pow-le-pow_right {n = 10} (omega arith) {i = i} {j = 8} (omega arith)

-- with at most nine digits it is that of a jump
pub power_jump : (i : ℕ) → i < 10 → 10 ^ i ≤ 1000000000
power_jump i h = pow-le-pow_right {n = 10} (omega arith) {i = i} {j = 9} (omega arith)

pub below_power : (number i : ℕ) → number < 10 ^ i → i < 10 → number ≤ 999999999
below_power number i h k = let small : 10 ^ i ≤ 1000000000 = power_jump i k in omega arith
