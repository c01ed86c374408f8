use Rattle.std.proofs.Common.{◌<◌, ◌≤◌, ◌^◌, arith, length}
use Rattle.pam_codes.proofs.Jumps.{jump_len, power_small, below_power}
use Rattle.pam_policy.proofs.text.number.value.Goals as goal

pub overflow_mul-number : goal.overflow_mul-number
overflow_mul-number c =
    let few : length c.args.digits.now < 10 = jump_len _ c.requires in
    let small : 10 ^ c.loop-digit.digit-index ≤ 100000000 = power_small _ (omega arith) in
    omega arith

pub overflow_add-number : goal.overflow_add-number
overflow_add-number c =
    let few : length c.args.digits.now < 10 = jump_len _ c.requires in
    let small : 10 ^ c.loop-digit.digit-index ≤ 100000000 = power_small _ (omega arith) in
    omega arith

pub returns-clause-bound : goal.returns-clause-bound
returns-clause-bound c = below_power _ _ c.loop-digit.invariant.bound (let few : length c.args.digits.now < 10 = jump_len _ c.requires in omega arith)
