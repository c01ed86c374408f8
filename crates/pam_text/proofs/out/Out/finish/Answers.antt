use Rattle.std.proofs.Common.{arith, refl, []}
use Rattle.pam_text.proofs.Writing.{flushed-kept, took-kept}
use Rattle.pam_text.proofs.out.Out.finish.Goals as goal

pub returns-in-Ok : goal.returns-in-Ok
returns-in-Ok g c =
    let e = c.in-Ok.ensures in
    let fits = c.args.self.now.countable in
    flushed-kept e.bytes e.taken e.flushes (omega (arith, e.failures, fits))

pub returns-in-Err : goal.returns-in-Err
returns-in-Err g c =
    let e = c.in-Err.ensures in
    let fits = c.args.self.now.countable in
    record { front = []; rest = []; parts = refl; took = took-kept e.bytes e.taken (omega (arith, e.flushes, fits)); failed = omega (arith, e.failures) }
