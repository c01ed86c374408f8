use Rattle.pam_graph.specs.Walks.{walks}
use Rattle.pam_graph.proofs.Turning.{meeting-before, told-coming}
use Rattle.pam_graph.proofs.graph.Graph.walks_before.Goals as goal

pub returns-clause-walks : goal.returns-clause-walks
returns-clause-walks c =
    told-coming c.walks_past.result _ _ c.walks_past.ensures.walks (meeting-before c.args.goal c.args.cursor.now (walks c.args.self.now))
