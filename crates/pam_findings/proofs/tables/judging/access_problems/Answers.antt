use Rattle.std.proofs.Common.{◌≡◌, ap, arith, length, suc}
use Rattle.pam_findings.proofs.TablesProofs.Several.{access-end, access-more}
use Rattle.pam_findings.proofs.tables.judging.access_problems.Goals as goal

pub loop-number-preserved : goal.loop-number-preserved
loop-number-preserved c =
    let so_far = c.loop-number.invariant in
    let steps = c.in-Some.ensures.steps in
    let fewer : length c.loop-number.bytes-iterator ≡ suc (length c.next.new.self) = ap length steps in (
      tt,
      tt,
      omega (arith, so_far.2, fewer),
      access-more c.args.options.now c.loop-number.number c.in-Some.bytes.now c.loop-number.bytes-iterator c.next.new.self
          c.loop-number.problems.items c.push_access_problems.new.problems.items _ steps c.in_ok-push_access_problems.ensures so_far.3,
    )

pub returns : goal.returns
returns c =
    access-end c.args.options.now c.loop-number.number c.loop-number.bytes-iterator c.loop-number.problems.items _ c.in-None.ensures.steps.0
    c.loop-number.invariant.3
