use Rattle.std.proofs.Common.{◌≡◌}
use Rattle.pam_tables.specs.Lines.{lines_from, lines_left}
use Rattle.pam_tables.specs.Named.{first_of_each_read}
use Rattle.pam_tables.proofs.NamedSteps.{entries_in, followed_by}
use Rattle.pam_tables.proofs.named.read_entries.Given as goal

abbrev pub invariant-loop-number : goal.invariant-loop-number
invariant-loop-number g l =
    let read = entries_in g.E.Entries.meant in
    record {
      can : (goal.iterator-loop-number g).can_next l.number-iterator;
      finite : (goal.iterator-loop-number g).is_finite l.number-iterator;
      same : followed_by (g.E.Entries.entries l.entries) (read (lines_left l.number-iterator.is_done l.number-iterator.number l.number-iterator.rest.now))
          ≡ first_of_each_read (read (lines_from 1 l.fn.bytes));
    }
