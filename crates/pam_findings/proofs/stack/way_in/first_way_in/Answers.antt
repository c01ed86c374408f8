use Rattle.std.proofs.Common.{◌∙◌, ap, slice_get}
use Rattle.pam_graph.specs.declared.goal.Goal.{Goal}
use Rattle.pam_graph.specs.Goals.{meeting}
use Rattle.pam_graph.specs.Walks.{walks}
use Rattle.pam_paths.specs.Known.{may_answer}
use Rattle.pam_findings.proofs.StackProofs.Marking.{listing-of}
use Rattle.pam_findings.proofs.StackProofs.WaysIn.{says-way}
use Rattle.pam_findings.proofs.stack.way_in.first_way_in.Goals as goal

pub returns-clause-way : goal.returns-clause-way
returns-clause-way c items of =
    let allows = may_answer c.args.known.now in
    let graph = c.in_ok-graph.graph in
    says-way allows items (walks graph)
    (listing-of allows c.args.program.now items of graph.nodes graph.start (c.in_ok-graph.ensures.stack items of.runs))
    c.in_ok-first.field-0 (c.in_ok-first.ensures ∙ ap (λ (g : Goal). slice_get (meeting g (walks graph)) 0) c.success.ensures)
