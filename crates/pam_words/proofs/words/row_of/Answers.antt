use Rattle.pam_words.specs.Words.{access_app, bare_app, check_app, compare_app, decide_app, explain_app, facts_app, graph_app, outcomes_app, pamcheck_app}
use Rattle.pam_words.specs.Words.{needs_app, paths_app, policy_app, show_app, time_app, version_app}
use Rattle.pam_words.proofs.Rows.{in-either, in-table}
use Rattle.pam_words.proofs.words.row_of.Goals as goal

pub returns : goal.returns
unfolding pamcheck_app bare_app check_app compare_app policy_app show_app decide_app paths_app outcomes_app graph_app access_app time_app explain_app
    facts_app needs_app version_app
returns c =
    let name = c.args.name.now in
    let hosts = in-table name _ _ c.row_in.ensures in
    let stacks = in-either c.or.ensures hosts (in-table name _ _ c.row_in-2.ensures) in
    let listings = in-either c.or-2.ensures stacks (in-table name _ _ c.row_in-3.ensures) in
    let graphs = in-either c.or-3.ensures listings (in-table name _ _ c.row_in-4.ensures) in
    let lookups = in-either c.or-4.ensures graphs (in-table name _ _ c.row_in-5.ensures) in
    let pages = in-either c.or-5.ensures lookups (in-table name _ _ c.row_in-6.ensures) in
    pages.found
