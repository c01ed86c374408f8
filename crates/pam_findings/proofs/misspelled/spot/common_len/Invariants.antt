-- the bytes so far are equal
use Rattle.std.proofs.Common.{◌≡◌, ◌≤◌, ◌+◌, drop, length, nat_eq}
use Rattle.std.specs.List.{common_prefix_len}
use Rattle.pam_findings.proofs.misspelled.spot.common_len.Given as goal

abbrev pub invariant-loop-index : goal.invariant-loop-index
invariant-loop-index l = record {
  within : l.index ≤ length l.bytes;
  all : l.index + common_prefix_len nat_eq (drop l.index l.word) (drop l.index l.bytes) ≡ common_prefix_len nat_eq l.word l.bytes;
}
