use Rattle.std.proofs.Common.{◌∙◌}
use Rattle.pam_tables.proofs.TimesProofs.OnePassSteps.{cut_here}
use Rattle.pam_tables.proofs.times.one_pass.past_field.Goals as goal

pub returns-clause-cut : goal.returns-clause-cut
returns-clause-cut c = cut_here c.args.text.now _ _ (c.in_ok-end.ensures.end ∙ c.in_ok-after.ensures.cases.0)
