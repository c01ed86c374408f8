use Rattle.std.proofs.Common.{List, Option, Result, ap, refl, subst, sym, ◌∙◌}
use Rattle.std.specs.Prelude.{is_some}
use Rattle.pam_conf.specs.Resolution.{resolved}
use Rattle.pam_facts.specs.Reading.{known_rows}
use Rattle.pam_facts.specs.Rows.{Row}
use Rattle.pam_words.specs.declared.wanted.Answers.{Answers}
use Rattle.pam_report.proofs.KnownStacks.{facts-read, facts-unread, facts-wanting}
use Rattle.pam_report.specs.Answer.{login_at}
use Rattle.pam_report.specs.inner.Known.{FindsStack, IsFaultOf}
use Rattle.pam_report.specs.KnownStack.{KnownItems, facts_asked, known_stack, with_facts}
use Rattle.pam_report.specs.Memory.{of_paths, paths_tables}
use Rattle.pam_report.specs.declared.fault.Fault.{Fault}
use Rattle.pam_report.proofs.report.known_stack.stack_by_facts.Goals as goal

pub returns-in-Ok-clause-stack : goal.returns-in-Ok-clause-stack
returns-in-Ok-clause-stack c =
    let sources = c.args.sources.now in
    let asked = c.args.request.now in
    let inputs = sources.inputs.now in
    let next : Option (List Row) → Result KnownItems Fault =
    λ (facts : Option (List Row)). known_stack asked.kind (login_at asked.service.now asked.login) inputs facts sources.moment
    (resolved sources.files.now asked.service.now asked.kind) in
    subst (λ (a : Answers). FindsStack c.stack_by_tables-in-Ok.result (with_facts (facts_asked a inputs) next)) (sym c.in-Possible.is)
    (facts-read _ _ _ next (ap known_rows (sym c.facts_file.ensures) ∙ c.in-Ok.ensures) c.stack_by_tables-in-Ok.ensures.stack)

pub returns-in-Err-clause-stack : goal.returns-in-Err-clause-stack
returns-in-Err-clause-stack c = rw (c.in-Possible.is, ← c.facts_file.ensures, c.facts_fault.ensures) (facts-unread _ _ c.in-Err.error c.in-Err.ensures)

pub returns-in-Err-clause-wants : goal.returns-in-Err-clause-wants
returns-in-Err-clause-wants c =
    let sources = c.args.sources.now in
    rw c.facts_fault.ensures (facts-wanting (of_paths (paths_tables (is_some sources.moment) sources.inputs.now)) c.in-Err.error refl)
