-- Counts of steps never fall.
use Rattle.std.proofs.Common.{ℕ, arith}
use Rattle.pam_paths.specs.inner.Work.{CountsOn}

pub counts-then : (first second third : ℕ) → CountsOn first second → CountsOn second third → CountsOn first third
counts-then first second third before after held =
    let one = before held in
    let two = after one.1 in
    (omega (arith, one.0, two.0), two.1)
