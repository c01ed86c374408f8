use Rattle.std.proofs.Common.{◌≡◌, ◌++◌, filter_map, map}
use Rattle.pam_tables.specs.Lines.{lines_from, lines_left}
use Rattle.pam_report.specs.Unused.{idle_at, unused_view}
use Rattle.pam_report.proofs.report.unused.push_idle.Given as goal

-- the rows so far, and those of the lines that are left
abbrev pub invariant-loop-number : goal.invariant-loop-number
invariant-loop-number l = record {
  can : (goal.iterator-loop-number).can_next l.number-iterator;
  finite : (goal.iterator-loop-number).is_finite l.number-iterator;
  same : map unused_view l.unused.items
      ++ filter_map (idle_at l.met.names.now) (lines_left l.number-iterator.is_done l.number-iterator.number l.number-iterator.rest.now)
      ≡ map unused_view l.initial.unused.items ++ filter_map (idle_at l.met.names.now) (lines_from 1 l.source.bytes.now);
}
