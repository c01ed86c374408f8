use Rattle.pam_words.specs.Words.{access_app, bare_app, time_app, with_graphs, with_hosts, with_listings, with_stacks}
use Rattle.pam_words.proofs.words.up_to_lookups.Goals as goal

pub returns : goal.returns
unfolding access_app time_app
returns c = c.with_commands.ensures (with_graphs (with_listings (with_stacks (with_hosts bare_app)))) c.in_ok-up_to_graphs.ensures.0
