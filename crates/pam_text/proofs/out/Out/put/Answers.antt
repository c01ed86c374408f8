use Rattle.std.proofs.Common.{ℕ, List, ◌-◌, length, take, drop, arith, length-take, length-drop}
use Rattle.pam_text.proofs.Writing.{took-kept, took-more, front-at, fails-taking_none, fails-taking_some}
use Rattle.pam_text.proofs.out.Out.put.Goals as goal

pub returns-in-Ok-eq0 : goal.returns-in-Ok-eq0
returns-in-Ok-eq0 g c =
    let e = c.in-Ok-eq0.ensures in
    let zero = c.in-Ok-eq0.field-0-test in
    let left : List ℕ = take (length c.args.bytes.now - c.loop-written.written) (drop c.loop-written.written c.args.bytes.now) in
    let one = fails-taking_none c.in-Ok-eq0.field-0 left zero (omega (arith, length-take {A = ℕ}, length-drop {A = ℕ})) in
    front-at _ _ c.loop-written.invariant.took
    (record { held = rw zero at e.bytes; counted = omega (arith, e.taken, zero); unflushed = e.flushes })
    (omega (arith, rw one at e.failures))

pub returns-in-Err : goal.returns-in-Err
returns-in-Err g c =
    let e = c.in-Err.ensures in
    front-at _ _ c.loop-written.invariant.took (took-kept e.bytes (omega (arith, e.taken, c.loop-written.self.countable)) e.flushes) (omega (arith, e.failures))

pub loop-written-preserved : goal.loop-written-preserved
loop-written-preserved g c =
    let e = c.in-Ok.ensures in
    let most = length-take {A = ℕ} in
    let left = length-drop {A = ℕ} in
    let none =
    fails-taking_some c.in-Ok.count (take (length c.args.bytes.now - c.loop-written.written) (drop c.loop-written.written c.args.bytes.now))
    c.in-Ok.count-test.1 in
    record {
      within = omega (arith, e.bound, most, left);
      took = took-more _ _ _ (omega (arith, e.bound, most, left)) c.loop-written.invariant.took
          (record { held = e.bytes; counted = omega (arith, e.taken, e.bound, most, left); unflushed = e.flushes });
      as_before = omega (arith, rw none at e.failures, c.loop-written.invariant.as_before);
    }
