use Rattle.std.proofs.Common.{◌≡◌, ◌++◌}
use Rattle.pam_tables.specs.Access.{access_line}
use Rattle.pam_tables.specs.Faults.{line_faults}
use Rattle.pam_tables.specs.Lines.{lines_from, lines_left}
use Rattle.pam_tables.specs.declared.error.Table.TheVariants.{Access}
use Rattle.pam_tables.proofs.faults.faults_of_access.Given as goal

abbrev pub invariant-loop-number : goal.invariant-loop-number
invariant-loop-number l =
    let read = access_line l.separators.fields.bytes.now l.separators.tokens.bytes.now in
    record {
      can : (goal.iterator-loop-number).can_next l.number-iterator;
      finite : (goal.iterator-loop-number).is_finite l.number-iterator;
      found : l.faults.items ++ line_faults Access read (lines_left l.number-iterator.is_done l.number-iterator.number l.number-iterator.rest.now)
          ≡ line_faults Access read (lines_from 1 l.fn.source.bytes.now);
    }
