use Rattle.std.proofs.Common.{sym}
use Rattle.pam_graph.specs.Walks.{walks_to}
use Rattle.pam_paths.specs.Known.{may_answer}
use Rattle.pam_policy.proofs.SearchProofs.Distances.{after-next}
use Rattle.pam_policy.proofs.search.distances.Search.distance_after.Goals as goal

pub returns-in-Some : goal.returns-in-Some
returns-in-Some c known knows =
    let search = c.args.self.now in
    after-next (may_answer search.known.now) search.query.now (walks_to known c.args.target.now) c.args.number c.args.code c.args.state c.in-Some.next
    c.distance_to.result (sym c.in-Some.ensures.value) (c.distance_to.ensures known knows)
