-- the modules so far that have the path are counted
use Rattle.std.proofs.Common.{◌≡◌, ◌≤◌}
use Rattle.pam_render.specs.parts.Changes.{with_path}
use Rattle.pam_render.proofs.parts.changes.occurrence.Given as goal

abbrev pub invariant-loop-index : goal.invariant-loop-index
invariant-loop-index l = record {
  counted : l.count ≡ with_path l.stack l.path l.index;
  few : l.count ≤ l.index;
}
