use Rattle.std.proofs.Common.{◌∙◌, List, ap}
use Rattle.pam_graph.specs.declared.node.Target.{Target}
use Rattle.pam_graph.specs.Walks.{walks}
use Rattle.pam_paths.specs.Known.{may_answer}
use Rattle.pam_findings.specs.declared.stack.leading.Onward.{Onward}
use Rattle.pam_findings.specs.stack.inner.Leading.{onward_at, onwards}
use Rattle.pam_findings.proofs.StackProofs.Leading.{says-leads}
use Rattle.pam_findings.proofs.StackProofs.Onward.{leads-walks}
use Rattle.pam_findings.proofs.stack.leading.leads.Goals as goal

pub returns : goal.returns
returns c =
    let allows = may_answer c.args.answers.now in
    let first = c.args.sought.now.first.now in
    let codes = c.args.sought.now.codes in
    let later = c.args.sought.now.later.now in
    let graph = c.args.graph.now in
    says-leads allows first codes later c.args.stack.now c.items-items.ensures.numbered (walks graph) c.requires _
    (ap (λ (o : Onward). o.leads) c.onward_at.ensures
    ∙ ap (λ (known : List Onward). (onward_at known c.start.result).leads)
    (c.deref.ensures.value ∙ c.in_ok-known.ensures ∙ ap (onwards allows first codes later) c.nodes.ensures.nodes)
    ∙ ap (λ (start : Target). (onward_at (onwards allows first codes later graph.nodes) start).leads) c.start.ensures.start
    ∙ leads-walks allows first codes later graph.nodes graph.start)
