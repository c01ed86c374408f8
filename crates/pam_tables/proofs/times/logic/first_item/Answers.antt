use Rattle.std.proofs.Common.{◌∙◌, ap, sym, ℕ, drop, take}
use Rattle.std.proofs.lemmas.Bool.{eqb-false, eqb-true}
use Rattle.pam_tables.proofs.TimesProofs.LogicSteps.{none_first, some_first}
use Rattle.pam_tables.proofs.times.logic.first_item.Goals as goal

pub returns-then-is_empty-clause-item : goal.returns-then-is_empty-clause-item
returns-then-is_empty-clause-item c =
    none_first c.skip_not-is_inverted.result.0 c.args.text.now _ c.skip_not-is_inverted.ensures.signs c.skip_not-is_inverted.ensures.first
    (sym c.token_len.ensures.value ∙ sym c.split_at.ensures.front_len ∙ eqb-true _ _ (sym c.is_empty.ensures ∙ c.if-is_empty.true))

pub returns-clause-item : goal.returns-clause-item
returns-clause-item c =
    let begin = c.skip_not-is_inverted.result.1.now in
    some_first c.skip_not-is_inverted.result.0 c.args.text.now begin _ _ c.skip_not-is_inverted.ensures.signs
    (λ h. eqb-false _ _ (sym c.is_empty.ensures ∙ c.if-is_empty.false) (c.split_at.ensures.front_len ∙ c.token_len.ensures.value ∙ h))
    (c.split_at.ensures.front ∙ ap (λ (n : ℕ). take n begin) c.token_len.ensures.value)
    (c.split_at.ensures.back ∙ ap (λ (n : ℕ). drop n begin) c.token_len.ensures.value)
