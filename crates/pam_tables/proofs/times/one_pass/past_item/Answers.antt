use Rattle.std.proofs.Common.{◌∙◌, sym}
use Rattle.std.proofs.lemmas.Bool.{eqb-false}
use Rattle.pam_tables.proofs.TimesProofs.OnePassSteps.{item_passed}
use Rattle.pam_tables.proofs.times.one_pass.past_item.Goals as goal

pub returns-in-Ok-clause-item : goal.returns-in-Ok-clause-item
returns-in-Ok-clause-item c =
    item_passed c.args.field c.skip_not.result.0 c.args.text.now c.skip_not.result.1.now _ _ _ c.inside_len.result c.skip_not.ensures.before
    c.inside_len.ensures.value (λ h. eqb-false _ _ (sym c.is_empty.ensures ∙ c.if-is_empty.false) (c.split_at.ensures.front_len ∙ h))
    c.split_at.ensures.front c.split_at.ensures.back c.in-Ok.ensures c.skip_blanks.ensures.before c.skip_blanks.ensures.onward
