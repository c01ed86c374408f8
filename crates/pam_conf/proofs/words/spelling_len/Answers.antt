use Rattle.pam_conf.proofs.WordSteps.{unescaped_pair, unescaped_one}
use Rattle.std.proofs.Common.{arith}
use Rattle.pam_conf.proofs.words.spelling_len.Goals as goal
use Rattle.pam_conf.proofs.words.spelling_len.Goals.{else-inside-ge2-via-then-inside-ge2+then-inside-eq92+else-inside-eq93}
use Rattle.pam_conf.proofs.words.spelling_len.Goals.{else-inside-ge2-via-then-inside-ge2+else-inside-eq92, else-inside-ge2-via-else-inside-ge2}

pub returns-then-inside-eq93-clause-text : goal.returns-then-inside-eq93-clause-text
returns-then-inside-eq93-clause-text c = unescaped_pair c.args.inside.now c.if-inside-ge2.true c.if-inside-eq92.true c.if-inside-eq93.true

pub returns-else-inside-ge2-clause-text : goal.returns-else-inside-ge2-clause-text
returns-else-inside-ge2-clause-text c = unescaped_one c.args.inside.now c.requires (elim c.else-inside-ge2.branch [
  | else-inside-ge2-via-then-inside-ge2+then-inside-eq92+else-inside-eq93 w ↦ λ long first second. w.if-inside-eq93.false second
  | else-inside-ge2-via-then-inside-ge2+else-inside-eq92 w ↦ λ long first second. w.if-inside-eq92.false first
  | else-inside-ge2-via-else-inside-ge2 w ↦ λ long first second. omega arith
])
