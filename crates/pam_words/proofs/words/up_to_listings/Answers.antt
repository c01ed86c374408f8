use Rattle.pam_words.specs.Words.{bare_app, paths_app, with_hosts, with_stacks}
use Rattle.pam_words.proofs.words.up_to_listings.Goals as goal

pub returns : goal.returns
unfolding paths_app
returns c = c.with_commands.ensures (with_stacks (with_hosts bare_app)) c.in_ok-up_to_stacks.ensures.0
