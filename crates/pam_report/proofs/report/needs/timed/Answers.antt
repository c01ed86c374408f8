use Rattle.std.proofs.Common.{Option, Result, None}
use Rattle.jiff.specs.Types.{DateTime}
use Rattle.pam_tables.specs.declared.times.moments.MomentError.{MomentError}
use Rattle.pam_report.proofs.NeedsAnswers.{as-told}
use Rattle.pam_report.specs.Needs.{IsTimed}
use Rattle.pam_report.specs.inner.Needs.{needs_text}
use Rattle.pam_report.proofs.report.needs.timed.Goals as goal

pub returns-in-None-clause-answer : goal.returns-in-None-clause-answer
returns-in-None-clause-answer c =
    let sources = c.args.sources.now in
    let asked = needs_text sources c.args.request.now in
    as-told (λ (at : Option (Result DateTime MomentError)). IsTimed asked sources.files.now sources.inputs.now at c.args.facts.now) sources.moment None
    c.keyed.result c.in-None.is c.keyed.ensures.answer
