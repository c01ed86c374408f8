-- the bytes so far are no line feeds
use Rattle.std.proofs.Common.{◌≡◌, ◌+◌, ◌≤◌, ◌==◌, drop, length, not}
use Rattle.std.specs.List.{prefix_len}
use Rattle.pam_text.proofs.text.comment_len.Given as goal

abbrev pub invariant-loop-index : goal.invariant-loop-index
invariant-loop-index l = record {
  within : l.index ≤ length l.bytes;
  inside : prefix_len (λ b. not (b == 10)) l.bytes ≡ l.index + prefix_len (λ b. not (b == 10)) (drop l.index l.bytes);
}
