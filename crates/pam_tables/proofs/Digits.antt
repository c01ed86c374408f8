-- Numbers of few digits.
use Rattle.std.proofs.Common.{◌≡◌, ◌+◌, ◌*◌, ◌<◌, ◌≤◌, ◌^◌, ℕ, arith, add-one, refl}
use Rattle.std.proofs.Math.Nat.{pow-le-pow_right, mul-le-mul_left, pow-suc}

pub small_power : (i : ℕ) → i < 5 → 16 ^ i ≤ 65536
small_power i h = pow-le-pow_right {n = 16} (omega arith) {i = i} {j = 4} (omega arith)

-- one more digit of a base up to 16
pub one_digit : (n b d p : ℕ) → n < p → b ≤ 16 → d < b → n * b + d < p * 16
one_digit n b d p h k l = omega (arith, mul-le-mul_left n k)

pub more_digits : (n b d i : ℕ) → n < 16 ^ i → b ≤ 16 → d < b → n * b + d < 16 ^ (i + 1)
more_digits n b d i h k l = rw (add-one, pow-suc) (one_digit n b d (16 ^ i) h k l)

pub few_digits : (n b d i : ℕ) → n < 16 ^ i → i < 4 → b ≤ 16 → d < b → n * b + d < 65536
few_digits n b d i h l k m = omega (arith, more_digits n b d i h k m, small_power (i + 1) (omega arith))

-- one more piece of 16 bits
pub piece_fits : (n d c : ℕ) → n < 65536 ^ c → c < 8 → d < 65536 → n * 65536 + d < 2 ^ 128
piece_fits n d c h k l =
    let large : 65536 ^ (c + 1) ≤ 65536 ^ 8 = pow-le-pow_right {n = 65536} (omega arith) {i = c + 1} {j = 8} (omega arith) in
    let one : 65536 ^ (c + 1) ≡ 65536 ^ c * 65536 = rw (add-one, pow-suc) refl in
    let top : 65536 ^ 8 ≡ 2 ^ 128 = refl in
    omega arith
