use Rattle.std.proofs.Common.{subst, sym}
use Rattle.std.proofs.lemmas.Bool.{false≢true}
use Rattle.pam_text.specs.Members.{Member}
use Rattle.pam_findings.proofs.HostProofs.Halves.{listed-if}
use Rattle.pam_findings.proofs.StackProofs.Passing.{not-true}
use Rattle.pam_findings.proofs.host.taking.lacks.Goals as goal

pub returns-then-not-may_lack-clause-yes : goal.returns-then-not-may_lack-clause-yes
returns-then-not-may_lack-clause-yes c e = absurd (false≢true e)

pub returns-then-not-may_lack-clause-no : goal.returns-then-not-may_lack-clause-no
returns-then-not-may_lack-clause-no c e l =
    l.asked (subst (Member c.args.number) c.deref.ensures.value (c.may_lack.ensures.no c.if-not-may_lack.true l.takes))

pub returns-clause-yes : goal.returns-clause-yes
returns-clause-yes c e =
    let both = c.may_lack.ensures.yes c.if-not-may_lack.false in
    record {
      takes = both.0;
      asked = λ m. both.1 (subst (Member c.args.number) (sym c.deref.ensures.value) m);
      none = c.in_ok-is_asked.ensures.none (not-true c.in_ok-is_asked.is_asked e);
    }

pub returns-clause-no : goal.returns-clause-no
returns-clause-no c e l = c.in_ok-is_asked.ensures.some (listed-if c.in_ok-is_asked.is_asked e) l.none
