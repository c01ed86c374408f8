-- what is left has the byte that is sought
use Rattle.std.proofs.Common.{◌≡◌, ◌≤◌, ◌-◌, ◌+◌, length, slice_get}
use Rattle.pam_findings.specs.misspelled.Spots.{offset_of, offsets_from}
use Rattle.pam_findings.proofs.misspelled.offsets.offset_of.Given as goal

abbrev pub invariant-loop : goal.invariant-loop
invariant-loop l = record {
  few : l.counter ≤ l.place;
  moved : l.ahead.0 + length l.ahead.1.0.now ≡ length l.bytes;
  there : slice_get (offsets_from l.ahead.0 l.ahead.1.0.now) (l.place - l.counter) ≡ offset_of l.bytes l.place;
}
