use Rattle.std.proofs.Common.{◌-◌, ◌∙◌, ℕ, ap, arith, slice_get, sym}
use Rattle.pam_dispatch.specs.declared.step.Outcome.{Outcome}
use Rattle.pam_dispatch.specs.Runs.{Ask, outcome_of}
use Rattle.pam_dispatch.proofs.OpenRuns.{left-fits}
use Rattle.pam_dispatch.proofs.Places.{answer_rest, place_deep, place_within}
use Rattle.pam_dispatch.proofs.program.answer_at.Goals as goal

pub overflow_sub-result : goal.overflow_sub-result
overflow_sub-result c =
    let deep = place_deep c.args.flat_items.now c.args.place.now c.requires.place c.requires.asking in omega (arith, deep, c.from.ensures)

pub overflow_sub-result-2 : goal.overflow_sub-result-2
overflow_sub-result-2 c =
    omega (
      arith,
      left-fits c.asked_at-asked.result c.args.code,
      ap (λ (o : Outcome). o.left) c.outcome-outcome.ensures,
      ap (λ (a : Ask). a.after) c.asked.view_is,
    )

pub returns-clause-action : goal.returns-clause-action
returns-clause-action c =
    ap (λ (a : Ask). slice_get a.control c.args.code) (sym (c.asked.view_is ∙ c.asked_at-asked.ensures)) ∙ c.action-action.ensures.of_code

pub returns-clause-rest : goal.returns-clause-rest
returns-clause-rest c =
    let outcome = c.outcome-outcome.result in
    answer_rest c.args.flat_items.now c.args.place.now c.requires.place c.requires.asking c.args.code _ _ outcome
    (ap (λ (a : Ask). outcome_of a c.args.code) (sym c.asked_at-asked.ensures) ∙ c.outcome-outcome.ensures)
    (ap (λ (n : ℕ). n - 1) c.from.ensures) (ap (λ (a : Ask). a.after - outcome.left) (c.asked.view_is ∙ c.asked_at-asked.ensures))

pub returns-clause-below : goal.returns-clause-below
returns-clause-below c =
    let deep = place_deep c.args.flat_items.now c.args.place.now c.requires.place c.requires.asking in omega (arith, deep, c.from.ensures)

pub returns-clause-within : goal.returns-clause-within
returns-clause-within c = place_within c.args.flat_items.now c.args.place.now c.requires.place c.requires.asking
