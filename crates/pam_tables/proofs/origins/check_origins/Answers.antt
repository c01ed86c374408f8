use Rattle.std.proofs.Common.{◌∙◌, ◌==◌, ◌||◌, sym}
use Rattle.pam_tables.specs.Tokens.{origin_token}
use Rattle.pam_tables.proofs.CleanSteps.{clean_list, no_mark_passes}
use Rattle.pam_tables.proofs.origins.check_origins.Goals as goal

pub returns-else-has_at_or_slash : goal.returns-else-has_at_or_slash
returns-else-has_at_or_slash c =
    clean_list (λ b. b == 64 || b == 47) origin_token no_mark_passes c.args.separators.now.bytes.now c.args.text.now
    (sym c.has_at_or_slash.ensures ∙ c.if-has_at_or_slash.false)
