use Rattle.pam_words.specs.Words.{bare_app, graph_app, needs_app, outcomes_app, with_hosts, with_listings, with_stacks}
use Rattle.pam_words.proofs.words.up_to_graphs.Goals as goal

pub returns : goal.returns
unfolding outcomes_app graph_app needs_app
returns c = c.with_commands.ensures (with_listings (with_stacks (with_hosts bare_app))) c.in_ok-up_to_listings.ensures.0
