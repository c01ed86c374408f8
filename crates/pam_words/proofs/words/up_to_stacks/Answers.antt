use Rattle.pam_words.specs.Words.{bare_app, decide_app, show_app, with_hosts}
use Rattle.pam_words.proofs.words.up_to_stacks.Goals as goal

pub returns : goal.returns
unfolding show_app decide_app
returns c = c.with_commands.ensures (with_hosts bare_app) c.in_ok-up_to_hosts.ensures.0
