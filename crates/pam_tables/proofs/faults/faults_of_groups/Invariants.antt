use Rattle.std.proofs.Common.{◌≡◌, ◌++◌}
use Rattle.pam_tables.specs.Faults.{group_line, line_faults}
use Rattle.pam_tables.specs.Lines.{lines_from, lines_left}
use Rattle.pam_tables.specs.declared.error.Table.TheVariants.{Group}
use Rattle.pam_tables.proofs.faults.faults_of_groups.Given as goal

abbrev pub invariant-loop-number : goal.invariant-loop-number
invariant-loop-number l =
    record {
      can : (goal.iterator-loop-number).can_next l.number-iterator;
      finite : (goal.iterator-loop-number).is_finite l.number-iterator;
      found : l.faults.items ++ line_faults Group group_line (lines_left l.number-iterator.is_done l.number-iterator.number l.number-iterator.rest.now)
          ≡ line_faults Group group_line (lines_from 1 l.fn.source.bytes.now);
    }
