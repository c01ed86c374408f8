use Rattle.pam_words.specs.Words.{bare_app, explain_app, facts_app, pamcheck_app, version_app}
use Rattle.pam_words.specs.Words.{with_graphs, with_hosts, with_listings, with_lookups, with_stacks}
use Rattle.pam_words.proofs.words.pamcheck_command.Goals as goal

pub returns : goal.returns
unfolding pamcheck_app explain_app facts_app version_app
returns c = c.with_commands.ensures (with_lookups (with_graphs (with_listings (with_stacks (with_hosts bare_app))))) c.in_ok-up_to_lookups.ensures.0
