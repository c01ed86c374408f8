use Rattle.pam_text.proofs.Cutting.{cut_found}
use Rattle.pam_released.proofs.tables.rows.cut_token.Goals as goal

pub returns-clause-value : goal.returns-clause-value
returns-clause-value c =
    cut_found _ c.args.text.now _ _ _ _ c.in_ok-index.ensures.value c.split_at.ensures.front c.split_at.ensures.back c.split_at-2.ensures.back
