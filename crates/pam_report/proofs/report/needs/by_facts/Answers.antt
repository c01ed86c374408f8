use Rattle.std.proofs.Common.{◌∙◌, ℕ, List, Ok, ap, refl, subst, sym}
use Rattle.std.specs.Prelude.{is_some}
use Rattle.pam_facts.specs.Error.{TellsFault}
use Rattle.pam_facts.specs.Reading.{known_rows}
use Rattle.pam_report.proofs.KnownStacks.{facts-wanting}
use Rattle.pam_report.proofs.NeedsAnswers.{as-told, without-facts}
use Rattle.pam_report.specs.Inputs.{facts_given}
use Rattle.pam_report.specs.Memory.{of_paths, paths_tables}
use Rattle.pam_report.specs.Needs.{IsByFacts}
use Rattle.pam_report.specs.inner.Needs.{needs_text}
use Rattle.pam_report.proofs.report.needs.by_facts.Goals as goal

pub returns-in-Ok-clause-answer : goal.returns-in-Ok-clause-answer
returns-in-Ok-clause-answer c =
    let sources = c.args.sources.now in
    as-told (IsByFacts (needs_text sources c.args.request.now) sources.files.now sources.inputs.now) _ (Ok c.in-Ok.facts) c.timed.result
    (ap known_rows (sym c.facts_file.ensures) ∙ c.in-Ok.ensures) c.timed.ensures.answer

pub returns-in-Err-clause-answer : goal.returns-in-Err-clause-answer
returns-in-Err-clause-answer c =
    let sources = c.args.sources.now in
    let told = subst (λ (bytes : List ℕ). TellsFault c.in-Err.error.fault c.in-Err.error (known_rows bytes)) c.facts_file.ensures c.in-Err.ensures in
    rw c.facts_fault.ensures
    (without-facts (IsByFacts (needs_text sources c.args.request.now) sources.files.now sources.inputs.now) (known_rows (facts_given sources.inputs.now))
    c.in-Err.error refl told)

pub returns-in-Err-clause-wants : goal.returns-in-Err-clause-wants
returns-in-Err-clause-wants c =
    let sources = c.args.sources.now in
    rw c.facts_fault.ensures (facts-wanting (of_paths (paths_tables (is_some sources.moment) sources.inputs.now)) c.in-Err.error refl)
