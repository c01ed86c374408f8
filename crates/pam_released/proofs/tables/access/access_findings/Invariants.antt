use Rattle.std.proofs.Common.{◌≡◌, ◌++◌}
use Rattle.pam_tables.specs.Lines.{lines_from, lines_left}
use Rattle.pam_released.specs.tables.Access.{access_tests}
use Rattle.pam_released.specs.tables.Findings.{found_in}
use Rattle.pam_released.specs.tables.inner.Separators.{options_with}
use Rattle.pam_released.proofs.tables.access.access_findings.Given as goal

abbrev pub invariant-loop-number : goal.invariant-loop-number
invariant-loop-number l =
    let tests = access_tests (options_with l.separators) l.last in
    record {
      can : (goal.iterator-loop-number).can_next l.number-iterator;
      finite : (goal.iterator-loop-number).is_finite l.number-iterator;
      found : l.found.items ++ found_in tests (lines_left l.number-iterator.is_done l.number-iterator.number l.number-iterator.rest.now)
          ≡ found_in tests (lines_from 1 l.fn.source.bytes.now);
    }
