use Rattle.std.proofs.Common.{◌∙◌, sym}
use Rattle.std.proofs.lemmas.Bool.{eqb-true, eqb-false}
use Rattle.pam_tables.specs.times.Entry.{days_of}
use Rattle.pam_tables.proofs.TimesProofs.EntrySteps.{from_none, no_letters, one_letter, named, unnamed}
use Rattle.pam_tables.proofs.times.entry.days.Goals as goal

pub loop-rest-init : goal.loop-rest-init
loop-rest-init c = from_none _

pub returns-in_err-name : goal.returns-in_err-name
unfolding days_of
returns-in_err-name c =
    c.from_residual.ensures ∙ sym (one_letter c.loop-rest.days c.loop-rest.rest.now (eqb-false _ _ (sym c.is_empty.ensures ∙ c.loop-rest-test.true))
    c.in_err-name.ensures.cases) ∙ c.loop-rest.invariant

pub returns-in_err-named_days : goal.returns-in_err-named_days
unfolding days_of
returns-in_err-named_days c =
    let cut = c.in_ok-name.ensures.cases in
    c.from_residual-in_err-named_days.ensures ∙ sym (unnamed c.loop-rest.days c.loop-rest.rest.now _ _ cut.0 cut.1 cut.2 c.in_err-named_days.ensures)
    ∙ c.loop-rest.invariant

pub loop-rest-preserved : goal.loop-rest-preserved
loop-rest-preserved c =
    let cut = c.in_ok-name.ensures.cases in
    named c.loop-rest.days _ c.loop-rest.rest.now _ _ _ cut.0 cut.1 cut.2 c.in_ok-named_days.ensures c.toggled-days.ensures ∙ c.loop-rest.invariant

pub returns : goal.returns
unfolding days_of
returns c = sym (no_letters c.loop-rest.days c.loop-rest.rest.now (eqb-true _ _ (sym c.is_empty.ensures ∙ c.loop-rest-test.false))) ∙ c.loop-rest.invariant
