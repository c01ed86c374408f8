use Rattle.pam_words.specs.Words.{bare_app, check_app, compare_app, policy_app}
use Rattle.pam_words.proofs.words.up_to_hosts.Goals as goal

pub returns : goal.returns
unfolding check_app compare_app policy_app
returns c = c.with_commands.ensures bare_app c.bare_command.ensures.app
