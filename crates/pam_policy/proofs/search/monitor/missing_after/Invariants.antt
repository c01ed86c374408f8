-- the digits so far, and those of the events that are left, are those of all events
use Rattle.std.proofs.Common.{◌≡◌, ◌<◌, ◌+◌, ◌*◌, ◌^◌, drop}
use Rattle.pam_policy.specs.search.inner.Monitor.{missing_after}
use Rattle.pam_policy.proofs.search.monitor.missing_after.Given as goal

abbrev pub invariant-loop-marks : goal.invariant-loop-marks
invariant-loop-marks l = record {
  bit : l.bit ≡ 2 ^ l.marks-index;
  low : l.left < l.bit;
  sum : l.left + l.bit * missing_after (drop l.marks-index l.wanted) l.number l.code l.digits ≡ missing_after l.wanted l.number l.code l.fn.missing;
}
