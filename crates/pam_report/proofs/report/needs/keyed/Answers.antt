use Rattle.std.proofs.Common.{◌∙◌, Bool, true, sym}
use Rattle.pam_report.proofs.NeedsAnswers.{as-told}
use Rattle.pam_report.specs.Needs.{IsKeyed}
use Rattle.pam_report.specs.inner.Needs.{needs_text}
use Rattle.pam_report.proofs.report.needs.keyed.Goals as goal

pub returns-in-Ok-true-clause-answer : goal.returns-in-Ok-true-clause-answer
returns-in-Ok-true-clause-answer c =
    let sources = c.args.sources.now in
    let asked = needs_text sources c.args.request.now in
    as-told (λ (named : Bool). IsKeyed asked sources.files.now sources.inputs.now named c.args.facts.now c.args.moment) _ true c.answer_at.result
    (sym c.in-Ok-true.ensures ∙ c.in-Ok-true.field-0-test) c.answer_at.ensures.answer
