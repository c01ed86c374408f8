use Rattle.std.proofs.Common.{◌≡◌, ◌-◌, ◌≤◌, length, take}
use Rattle.pam_text.specs.Out.{Took}
use Rattle.pam_text.proofs.out.Out.put.Given as goal

abbrev pub invariant-loop-written : goal.invariant-loop-written
invariant-loop-written g l = record {
  within : l.written ≤ length l.bytes;
  took : Took g.W.Write.contents l.initial.self l.self (take l.written l.bytes);
  as_before : l.self.failures ≡ l.initial.self.failures;
}

abbrev pub decreases-loop-written : goal.decreases-loop-written
decreases-loop-written g l = length l.bytes - l.written
