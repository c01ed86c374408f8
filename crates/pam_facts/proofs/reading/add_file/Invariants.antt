use Rattle.std.proofs.Common.{◌≡◌, map}
use Rattle.pam_tables.specs.Lines.{lines_from, lines_left}
use Rattle.pam_facts.specs.Reading.{after_rows, rows_from}
use Rattle.pam_facts.specs.Views.{row_view}
use Rattle.pam_facts.proofs.reading.add_file.Given as goal

abbrev pub invariant-loop-number : goal.invariant-loop-number
invariant-loop-number l = record {
  can : (goal.iterator-loop-number).can_next l.number-iterator;
  finite : (goal.iterator-loop-number).is_finite l.number-iterator;
  same : after_rows (map row_view l.rows.items) (rows_from (lines_left l.number-iterator.is_done l.number-iterator.number l.number-iterator.rest.now))
      ≡ after_rows (map row_view l.fn.rows.items) (rows_from (lines_from 1 l.bytes));
}
