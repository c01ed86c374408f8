-- the bytes so far are plain
use Rattle.std.proofs.Common.{◌≡◌, ◌+◌, ◌≤◌, drop, length}
use Rattle.std.specs.List.{prefix_len}
use Rattle.pam_text.specs.inner.Text.{is_plain}
use Rattle.pam_text.proofs.text.plain_len.Given as goal

abbrev pub invariant-loop-index : goal.invariant-loop-index
invariant-loop-index l = record {
  within : l.index ≤ length l.bytes;
  plain : prefix_len is_plain l.bytes ≡ l.index + prefix_len is_plain (drop l.index l.bytes);
}
