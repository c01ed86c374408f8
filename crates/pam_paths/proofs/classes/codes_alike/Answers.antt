use Rattle.std.proofs.Common.{◌∙◌, ap, refl, sym}
use Rattle.pam_dispatch.specs.Alike.{looks_at_code}
use Rattle.pam_dispatch.specs.declared.state.State.{State}
use Rattle.pam_paths.proofs.Sharing.{alike-all, alike-looking, alike-none, filled-first, first-in}
use Rattle.pam_paths.proofs.classes.codes_alike.Goals as goal

pub returns-then-looks_at_code : goal.returns-then-looks_at_code
returns-then-looks_at_code c =
    alike-looking c.args.asked.now c.args.outcome.now c.args.part.now c.requires c.args.outcome.now.state.status
    c.code_alike-told.result c.code_alike.result c.union.result
    (ap (λ (s : State). looks_at_code c.args.part.now.action s) (sym c.state.ensures) ∙ sym c.looks_at_code.ensures ∙ c.if-looks_at_code.true)
    refl c.code_alike-told.ensures c.code_alike.ensures c.union.ensures

pub unreachable-requires : goal.unreachable-requires
unreachable-requires c = filled-first c.args.part.now.codes c.requires.filled (sym c.least.ensures.first ∙ c.in-None.is)

pub leads_to-requires : goal.leads_to-requires
leads_to-requires c =
    c.requires.acts c.in-Some.code (first-in c.args.part.now.codes c.in-Some.code (sym c.least.ensures.first ∙ c.in-Some.is))

pub returns-then-leads_to : goal.returns-then-leads_to
returns-then-leads_to c =
    alike-all c.args.asked.now c.args.outcome.now c.args.part.now c.requires c.in-Some.code
    (ap (λ (s : State). looks_at_code c.args.part.now.action s) (sym c.state.ensures) ∙ sym c.looks_at_code.ensures ∙ c.if-looks_at_code.false)
    (sym c.least.ensures.first ∙ c.in-Some.is) (sym c.leads_to.ensures ∙ c.if-leads_to.true)

pub returns-else-leads_to : goal.returns-else-leads_to
returns-else-leads_to c =
    alike-none c.args.asked.now c.args.outcome.now c.args.part.now c.requires c.in-Some.code c.empty.result
    (ap (λ (s : State). looks_at_code c.args.part.now.action s) (sym c.state.ensures) ∙ sym c.looks_at_code.ensures ∙ c.if-looks_at_code.false)
    (sym c.least.ensures.first ∙ c.in-Some.is) (sym c.leads_to.ensures ∙ c.if-leads_to.false) c.empty.ensures
