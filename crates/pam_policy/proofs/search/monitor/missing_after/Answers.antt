use Rattle.std.proofs.Common.{◌+◌, ◌*◌, ◌%◌, Bool, ap, arith, cond}
use Rattle.std.proofs.lemmas.List.{drop_all}
use Rattle.pam_graph.proofs.Remaining.{item-left}
use Rattle.pam_policy.proofs.SearchProofs.Digits.{bit-next, bit-small, digits-end, digits-step, times-digit}
use Rattle.pam_policy.proofs.search.monitor.missing_after.Goals.{else-not-have, then-not-have}
use Rattle.pam_policy.proofs.search.monitor.missing_after.Goals as goal

pub overflow_add-left : goal.overflow_add-left
overflow_add-left c =
    let small = bit-small c.loop-marks.marks-index (omega arith) in
    let product = times-digit c.loop-marks.bit c.loop-marks.digits in
    let is = c.loop-marks.invariant.bit in
    let low = c.loop-marks.invariant.low in
    omega (arith, small, product, is, low)

pub overflow_mul-bit : goal.overflow_mul-bit
overflow_mul-bit c =
    let small = bit-small c.loop-marks.marks-index (omega arith) in
    let is = c.loop-marks.invariant.bit in
    omega (arith, small, is)

pub loop-marks-preserved : goal.loop-marks-preserved
loop-marks-preserved c =
    let i = c.loop-marks.marks-index in
    let marks = c.marks-item.result in
    let left = c.loop-marks.left in
    let bit = c.loop-marks.bit in
    let digits = c.loop-marks.digits in
    let at = item-left c.args.wanted.now i marks c.loop-marks-test.true c.marks-item.is in
    let next = bit-next bit i c.loop-marks.invariant.bit in
    let low = c.loop-marks.invariant.low in
    let product = times-digit bit digits in
    let step = digits-step c.args.wanted.now i marks c.args.number c.args.code digits left bit _ c.have.result at c.have.ensures c.loop-marks.invariant.sum in
    elim c.if-not-have.branch [
      | then-not-have w ↦
          let more = ap (λ (b : Bool). left + bit * cond b 0 (digits % 2)) w.if-not-have.true in
          record { bit = next; low = omega (arith, w.left-is, low, product); sum = omega (arith, step, more, w.left-is) }
      | else-not-have w ↦
          let more = ap (λ (b : Bool). left + bit * cond b 0 (digits % 2)) w.if-not-have.false in
          record { bit = next; low = omega (arith, w.left-is, low); sum = omega (arith, step, more, w.left-is) }
    ]

pub returns : goal.returns
returns c =
    digits-end c.args.wanted.now c.loop-marks.marks-index c.args.number c.args.code c.loop-marks.digits c.loop-marks.left c.loop-marks.bit _
    (drop_all c.loop-marks.marks-index c.args.wanted.now c.loop-marks-test.false) c.loop-marks.invariant.sum
