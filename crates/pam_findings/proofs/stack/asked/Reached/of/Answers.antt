use Rattle.std.proofs.Common.{◌∙◌, ap}
use Rattle.std.specs.List.{list_any}
use Rattle.pam_graph.specs.declared.goal.Goal.{Goal}
use Rattle.pam_graph.specs.Goals.{meets}
use Rattle.pam_graph.specs.Walks.{walks}
use Rattle.pam_paths.specs.Known.{may_answer}
use Rattle.pam_paths.specs.inner.Known.{some_code}
use Rattle.pam_findings.specs.stack.inner.Marks.{has_number}
use Rattle.pam_findings.proofs.StackProofs.Counting.{says-counts}
use Rattle.pam_findings.proofs.StackProofs.Marking.{listing-of, says-asked}
use Rattle.pam_findings.proofs.StackProofs.WaysIn.{says-nobody}
use Rattle.pam_findings.proofs.stack.asked.Reached.of.Goals as goal

pub returns-clause-nobody : goal.returns-clause-nobody
returns-clause-nobody c items of =
    let allows = may_answer c.args.known.now in
    let program = c.args.program.now in
    let graph = c.in_ok-graph.graph in
    says-nobody allows items (walks graph) (listing-of allows program items of graph.nodes graph.start (c.in_ok-graph.ensures.stack items of.runs))
    c.in_ok-lets_in.lets_in (c.in_ok-lets_in.ensures ∙ ap (λ (g : Goal). list_any (meets g) (walks graph)) c.success.ensures)

pub returns-clause-asked : goal.returns-clause-asked
returns-clause-asked c items of number from =
    let allows = may_answer c.args.known.now in
    let program = c.args.program.now in
    let graph = c.in_ok-graph.graph in
    says-asked allows program items of c.modules-modules.ensures.rise (λ m first last. some_code c.args.known.now m) graph.nodes graph.start number _
    c.in_ok-graph.ensures.nodes (c.in_ok-graph.ensures.stack items of.runs)
    (c.marks_of-asked.ensures number from ∙ ap (has_number number) c.nodes.ensures.nodes)

pub returns-clause-counting : goal.returns-clause-counting
returns-clause-counting c items of number from may =
    let allows = may_answer c.args.known.now in
    let program = c.args.program.now in
    let graph = c.in_ok-graph.graph in
    says-counts allows program items of c.modules-modules.ensures.rise graph.nodes c.nodes.ensures.order c.in_ok-graph.ensures.nodes graph.start number _
    (c.in_ok-graph.ensures.stack items of.runs) (c.in_ok-counting.ensures number from) may

pub returns-clause-graph : goal.returns-clause-graph
returns-clause-graph c items of =
    let graph = c.in_ok-graph.graph in
    listing-of (may_answer c.args.known.now) c.args.program.now items of graph.nodes graph.start (c.in_ok-graph.ensures.stack items of.runs)
