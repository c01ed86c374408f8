use Rattle.std.proofs.Common.{List, subst, ℕ}
use Rattle.std.proofs.lemmas.Result.{IfOk-weaker}
use Rattle.pam_paths.specs.Known.{may_answer}
use Rattle.pam_findings.specs.host.inner.Looked.{judgement_in}
use Rattle.pam_findings.specs.stack.inner.Leading.{SaysLeads}
use Rattle.pam_findings.proofs.HostProofs.Storing.{none-fails, some-fails}
use Rattle.pam_findings.proofs.host.storing.fails_before.Goals as goal

pub returns-clause-yes : goal.returns-clause-yes
returns-clause-yes c =
    let of = c.args.of.now in
    let refusing = c.args.refusing.now in
    let later = c.alone-later.result in
    IfOk-weaker c.leads.result _ _
    (λ is says e. some-fails c.args.by (judgement_in of) c.args.number refusing later c.items-items.ensures.numbered c.requires.refusing
    c.alone-later.ensures is
    (subst (λ (codes : List ℕ). SaysLeads (may_answer of.free.now) of.stack.now refusing codes later is) c.failures.ensures says) e)
    c.leads.ensures

pub returns-clause-no : goal.returns-clause-no
returns-clause-no c =
    let of = c.args.of.now in
    let refusing = c.args.refusing.now in
    let later = c.alone-later.result in
    IfOk-weaker c.leads.result _ _
    (λ is says e. none-fails c.args.by (judgement_in of) c.args.number refusing later c.items-items.ensures.numbered c.requires.refusing
    c.alone-later.ensures is c.requires.first
    (subst (λ (codes : List ℕ). SaysLeads (may_answer of.free.now) of.stack.now refusing codes later is) c.failures.ensures says) e)
    c.leads.ensures
