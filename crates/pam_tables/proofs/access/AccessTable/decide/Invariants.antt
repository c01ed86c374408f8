use Rattle.pam_tables.specs.Access.{access_line, access_answer}
use Rattle.pam_tables.specs.Lines.{lines_left}
use Rattle.pam_tables.specs.Login.{login_view}
use Rattle.pam_tables.specs.inner.Login.{origin_view}
use Rattle.pam_tables.proofs.AccessSteps.{Undecided, decided}
use Rattle.pam_tables.proofs.access.AccessTable.decide.Given as goal

abbrev pub invariant-loop-number : goal.invariant-loop-number
invariant-loop-number l = record {
  can : (goal.iterator-loop-number).can_next l.number-iterator;
  finite : (goal.iterator-loop-number).is_finite l.number-iterator;
  left : Undecided (access_line l.separators.fields.bytes.now l.separators.tokens.bytes.now)
      (decided l.users.memberships.now.groups.now l.users.by_name l.users.memberships.now.user.now (origin_view l.origin))
      (lines_left l.number-iterator.is_done l.number-iterator.number l.number-iterator.rest.now)
      (access_answer l.fn.self (login_view l.fn.login) l.fn.groups);
}
