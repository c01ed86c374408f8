use Rattle.std.proofs.Common.{List, subst, ℕ}
use Rattle.std.proofs.lemmas.Result.{IfOk-weaker}
use Rattle.pam_paths.specs.Known.{may_answer}
use Rattle.pam_findings.specs.host.inner.Looked.{judgement_in}
use Rattle.pam_findings.specs.stack.inner.Leading.{SaysLeads}
use Rattle.pam_findings.proofs.HostProofs.Tokens.{none-before, some-before}
use Rattle.pam_findings.proofs.host.taking.is_asked_before.Goals as goal

pub returns-clause-none : goal.returns-clause-none
returns-clause-none c =
    let of = c.args.of.now in
    let asking = c.args.asking.now in
    let later = c.alone-later.result in
    IfOk-weaker c.leads.result _ _
    (λ is says e. none-before c.args.kind (judgement_in of) c.args.number asking later c.items-items.ensures.numbered c.requires.asking
    c.alone-later.ensures is c.requires.first
    (subst (λ (codes : List ℕ). SaysLeads (may_answer of.free.now) of.stack.now asking codes later is) c.all.ensures says) e)
    c.leads.ensures

pub returns-clause-some : goal.returns-clause-some
returns-clause-some c =
    let of = c.args.of.now in
    let asking = c.args.asking.now in
    let later = c.alone-later.result in
    IfOk-weaker c.leads.result _ _
    (λ is says e. some-before c.args.kind (judgement_in of) c.args.number asking later c.items-items.ensures.numbered c.requires.asking
    c.alone-later.ensures is
    (subst (λ (codes : List ℕ). SaysLeads (may_answer of.free.now) of.stack.now asking codes later is) c.all.ensures says) e)
    c.leads.ensures
