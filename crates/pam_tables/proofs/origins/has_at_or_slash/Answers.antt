use Rattle.std.proofs.Common.{◌∙◌, ◌==◌, sym}
use Rattle.pam_tables.proofs.CleanSteps.{any_other}
use Rattle.pam_tables.proofs.origins.has_at_or_slash.Goals as goal

pub returns-else-contains : goal.returns-else-contains
returns-else-contains c =
    c.contains-else-contains.ensures.value
    ∙ any_other (λ b. b == 64) (λ b. b == 47) c.args.text.now (sym c.contains.ensures.value ∙ c.if-contains.false)
