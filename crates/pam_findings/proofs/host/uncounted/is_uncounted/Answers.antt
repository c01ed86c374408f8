use Rattle.std.proofs.Common.{subst, sym}
use Rattle.std.proofs.lemmas.Bool.{false≢true}
use Rattle.pam_text.specs.Members.{Member}
use Rattle.pam_findings.proofs.HostProofs.Halves.{listed-if}
use Rattle.pam_findings.proofs.StackProofs.Passing.{not-true}
use Rattle.pam_findings.proofs.host.uncounted.is_uncounted.Goals as goal

pub returns-then-not-is_asked_with-clause-yes : goal.returns-then-not-is_asked_with-clause-yes
returns-then-not-is_asked_with-clause-yes c e = absurd (false≢true e)

pub returns-then-not-is_asked_with-clause-no : goal.returns-then-not-is_asked_with-clause-no
returns-then-not-is_asked_with-clause-no c e u =
    u.asked (subst (Member c.args.number) c.deref.ensures.value (c.is_asked_with.ensures.no c.if-not-is_asked_with.true u.counts))

pub returns-clause-yes : goal.returns-clause-yes
returns-clause-yes c e =
    let both = c.is_asked_with.ensures.yes c.if-not-is_asked_with.false in
    record {
      counts = both.0;
      asked = λ m. both.1 (subst (Member c.args.number) (sym c.deref.ensures.value) m);
      none = c.in_ok-follows.ensures.no (not-true c.in_ok-follows.follows e);
    }

pub returns-clause-no : goal.returns-clause-no
returns-clause-no c e u = c.in_ok-follows.ensures.yes (listed-if c.in_ok-follows.follows e) u.none
