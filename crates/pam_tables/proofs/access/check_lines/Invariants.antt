use Rattle.std.proofs.Common.{◌≡◌}
use Rattle.pam_tables.specs.Access.{access_line, lines_of}
use Rattle.pam_tables.specs.Error.{read_lines, verdict}
use Rattle.pam_tables.specs.Lines.{lines_left}
use Rattle.pam_tables.proofs.access.check_lines.Given as goal

abbrev pub invariant-loop-number : goal.invariant-loop-number
invariant-loop-number l =
    let fs = l.separators.fields.bytes.now in
    let ls = l.separators.tokens.bytes.now in
    record {
      can : (goal.iterator-loop-number).can_next l.number-iterator;
      finite : (goal.iterator-loop-number).is_finite l.number-iterator;
      same : verdict (read_lines (access_line fs ls) (lines_left l.number-iterator.is_done l.number-iterator.number l.number-iterator.rest.now))
          ≡ verdict (lines_of fs ls l.fn.source.bytes.now);
    }
