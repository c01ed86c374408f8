use Rattle.std.proofs.Common.{List, subst, ℕ}
use Rattle.pam_text.specs.Members.{Member}
use Rattle.pam_findings.specs.host.Verdicts.{SaysWhoLogsIn}
use Rattle.pam_findings.specs.host.inner.Looked.{OfModules, judgement_of}
use Rattle.pam_findings.specs.host.inner.Table.{Adds}
use Rattle.pam_findings.specs.declared.host.problem.Problem.TheVariants as problems
use Rattle.pam_findings.proofs.HostProofs.Verdicted.{adds-vain}
use Rattle.pam_findings.proofs.host.judging.push_vain.Goals as goal

pub returns-in_ok-push_never_counting : goal.returns-in_ok-push_never_counting
returns-in_ok-push_never_counting c free causes =
    adds-vain c.args.kind (judgement_of c.args.stack.now free c.args.failing.now c.args.soundness.now causes)
    c.args.spots.now.items c.push_never_counting.new.spots.items
    (c.lets_somebody_in.ensures.yes c.if-lets_somebody_in.true)
    (subst (λ (numbers : List ℕ). Adds (OfModules problems.SuccessNeverCounts c.args.stack.now
    (λ number. Member number numbers × SaysWhoLogsIn c.args.failing.now number)) c.args.spots.now.items c.push_never_counting.new.spots.items)
    c.deref.ensures.value c.in_ok-push_never_counting.ensures)
