-- the substacks so far, and then those of the items that are left; and the modules so far, with those that are left
use Rattle.std.proofs.Common.{◌≡◌, ◌+◌, ◌++◌, drop, map}
use Rattle.pam_conf.specs.ItemsOf.{items_of}
use Rattle.pam_conf.specs.Stack.{module_count}
use Rattle.pam_drawing.specs.picture.Columns.{spans_after}
use Rattle.pam_drawing.specs.picture.inner.Spaced.{ends_of}
use Rattle.pam_drawing.proofs.picture.layout.brackets.+add_spans.Given as goal

abbrev pub decreases-add_spans : goal.decreases-add_spans
decreases-add_spans l = goal.size-add_spans l

abbrev pub invariant-loop-item : goal.invariant-loop-item
invariant-loop-item l = record {
  spans : map ends_of l.spans.items ++ spans_after l.passed (items_of (drop l.item-index l.items))
      ≡ map ends_of l.initial.spans.items ++ spans_after l.before (items_of l.items);
  passed : l.passed + module_count (items_of (drop l.item-index l.items)) ≡ l.before + module_count (items_of l.items);
}
