-- the rows so far, and what is left of the bytes
use Rattle.std.proofs.Common.{◌≡◌, ◌+◌, ◌++◌, take}
use Rattle.std.specs.List.{flat_map, range_with_len}
use Rattle.pam_findings.specs.misspelled.Spots.{after_feeds}
use Rattle.pam_render.specs.patch_text.Hunk.{row}
use Rattle.pam_render.proofs.patch_text.hunk.push_rows.Given as goal

abbrev pub invariant-loop : goal.invariant-loop
invariant-loop l = record {
  old_left : l.left ≡ after_feeds (l.passed + l.counter) l.old;
  new_left : l.right ≡ after_feeds (l.passed + l.counter) l.new;
  so_far : l.text.items ≡ l.initial.text.items ++ flat_map (row l.old l.new) (take l.counter (range_with_len l.passed l.count));
}
