use Rattle.std.proofs.Common.{refl, subst, sym}
use Rattle.pam_policy.specs.declared.host.stacks.ClassStack.TheVariants as classes
use Rattle.pam_report.proofs.NeedsAnswers.{as-told, refused-class, refused-wanting}
use Rattle.pam_report.specs.Memory.{IsWanting, of_paths}
use Rattle.pam_report.specs.Needs.{IsByClass}
use Rattle.pam_report.specs.declared.fault.Fault.{Fault}
use Rattle.pam_report.proofs.report.needs.answer_class.Goals as goal

pub returns-in-Refused-clause-answer : goal.returns-in-Refused-clause-answer
returns-in-Refused-clause-answer c =
    let asked = c.args.request.now in
    refused-class asked.service.now asked.kind c.args.facts.now c.args.class.stack c.in-Refused.error c.refusal.result c.in-Refused.is c.refusal.ensures

pub returns-in-Refused-clause-wants : goal.returns-in-Refused-clause-wants
returns-in-Refused-clause-wants c read =
    subst (λ (f : Fault). IsWanting (of_paths read) f) (sym c.refusal.ensures) (refused-wanting (of_paths read) c.in-Refused.error refl refl)

pub returns-in-Known-clause-answer : goal.returns-in-Known-clause-answer
returns-in-Known-clause-answer c =
    let asked = c.args.request.now in
    as-told (IsByClass asked.service.now asked.kind c.args.facts.now) _ (classes.Known c.in-Known.found) c.answer_known.result c.in-Known.is
    (rw c.in-Known.is at c.answer_known.ensures.answer)

pub returns-in-Known-clause-wants : goal.returns-in-Known-clause-wants
returns-in-Known-clause-wants c read = c.answer_known.ensures.wants (of_paths read) refl
