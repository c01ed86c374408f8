use Rattle.std.proofs.Common.{arith}
use Rattle.pam_tables.proofs.Digits.{few_digits, small_power}
use Rattle.pam_tables.proofs.address.numeral.Goals as goal

pub overflow_mul-number : goal.overflow_mul-number
overflow_mul-number c =
    omega (
      arith,
      few_digits c.loop-byte.number c.args.base 0 c.loop-byte.byte-index c.loop-byte.invariant.bound (omega arith) c.requires.greatest_base
          (omega arith),
    )

pub overflow_add-number : goal.overflow_add-number
overflow_add-number c =
    omega (
      arith,
      few_digits c.loop-byte.number c.args.base c.in_ok-digit.digit c.loop-byte.byte-index c.loop-byte.invariant.bound (omega arith)
          c.requires.greatest_base (omega (arith, c.in_ok-digit.ensures.value)),
    )

pub returns-clause-bound : goal.returns-clause-bound
returns-clause-bound c = omega (arith, small_power c.loop-byte.byte-index (omega arith))
