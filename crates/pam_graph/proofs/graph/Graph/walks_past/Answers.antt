use Rattle.std.proofs.Common.{◌∙◌, List, ℕ, ap, false, sym}
use Rattle.pam_graph.specs.declared.node.Node.{Node}
use Rattle.pam_graph.specs.declared.node.Target.{Target}
use Rattle.pam_graph.specs.Frames.{along, coming}
use Rattle.pam_graph.specs.inner.Parts.{part}
use Rattle.pam_graph.specs.Tallies.{wanted_of}
use Rattle.pam_graph.proofs.Sides.{known-at}
use Rattle.pam_graph.proofs.graph.Graph.walks_past.Goals as goal
use Rattle.pam_paths.specs.Paths.{PathValue}

pub returns-clause-walks : goal.returns-clause-walks
returns-clause-walks c =
    let g = c.args.self.now in
    let d = c.args.direction in
    let wanted = c.args.goal in
    let from : List Node → Target → List PathValue = λ ns t. along d wanted ns (record { target = t; is_met = false }) in
    ap (λ (ns : List Node). coming d wanted ns c.retrace-pending.result c.retrace-pending.new.frames.items) (sym c.nodes.ensures.nodes)
    ∙ c.retrace-pending.ensures.walks
    ∙ ap (λ (ns : List Node). part d c.codes.result.now (from ns c.start.result)) c.nodes.ensures.nodes
    ∙ ap (λ (k : List ℕ). part d k (from g.nodes c.start.result)) c.codes.ensures.value
    ∙ ap (λ (t : Target). part d c.args.cursor.now (from g.nodes t)) c.start.ensures.start
    ∙ ap (part d c.args.cursor.now) (ap (wanted_of wanted false) (known-at d g.nodes g.start))
