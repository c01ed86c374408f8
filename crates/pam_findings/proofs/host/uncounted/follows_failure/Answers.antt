use Rattle.std.proofs.Common.{List, subst, ℕ}
use Rattle.std.proofs.lemmas.Result.{IfOk-weaker}
use Rattle.pam_paths.specs.Known.{may_answer}
use Rattle.pam_findings.specs.host.inner.Looked.{judgement_in}
use Rattle.pam_findings.specs.stack.inner.Leading.{SaysLeads}
use Rattle.pam_findings.proofs.HostProofs.Uncounted.{after-none, after-some}
use Rattle.pam_findings.proofs.host.uncounted.follows_failure.Goals as goal

pub returns-clause-no : goal.returns-clause-no
returns-clause-no c =
    let of = c.args.of.now in
    let checking = c.args.checking.now in
    let later = c.alone-later.result in
    IfOk-weaker c.leads.result _ _
    (λ is says e. after-none (judgement_in of) c.args.number checking later c.items-items.ensures.numbered c.requires.checking
    c.alone-later.ensures is c.requires.first
    (subst (λ (codes : List ℕ). SaysLeads (may_answer of.free.now) of.stack.now checking codes later is) c.failures.ensures says) e)
    c.leads.ensures

pub returns-clause-yes : goal.returns-clause-yes
returns-clause-yes c =
    let of = c.args.of.now in
    let checking = c.args.checking.now in
    let later = c.alone-later.result in
    IfOk-weaker c.leads.result _ _
    (λ is says e. after-some (judgement_in of) c.args.number checking later c.items-items.ensures.numbered c.requires.checking
    c.alone-later.ensures is
    (subst (λ (codes : List ℕ). SaysLeads (may_answer of.free.now) of.stack.now checking codes later is) c.failures.ensures says) e)
    c.leads.ensures
