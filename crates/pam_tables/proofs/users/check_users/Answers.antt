use Rattle.std.proofs.Common.{◌∙◌, ◌==◌, sym}
use Rattle.pam_tables.specs.Tokens.{user_token}
use Rattle.pam_tables.proofs.CleanSteps.{clean_list, no_at_passes}
use Rattle.pam_tables.proofs.users.check_users.Goals as goal

pub returns-else-has_at : goal.returns-else-has_at
returns-else-has_at c =
    clean_list (λ b. b == 64) user_token no_at_passes c.args.separators.now.bytes.now c.args.text.now (sym c.has_at.ensures ∙ c.if-has_at.false)
