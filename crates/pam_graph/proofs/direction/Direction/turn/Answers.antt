use Rattle.std.proofs.Common.{◌≡◌, ◌∙◌, ◌+◌, ◌∷◌, Bool, List, ℕ, ap, arith, drop, length, sym}
use Rattle.std.proofs.lemmas.List.{drop_all}
use Rattle.pam_graph.specs.declared.goal.Goal.{Goal}
use Rattle.pam_graph.specs.declared.node.Edge.{Edge}
use Rattle.pam_graph.specs.Frames.{edges_in, wanted_by}
use Rattle.pam_graph.specs.inner.Parts.{is_beyond, part}
use Rattle.pam_graph.proofs.Sides.{above-in, drop-in, length-in}
use Rattle.pam_graph.proofs.Turning.{AreOrdered, ordered-left, turn-beyond, turn-nearer, turn-same}
use Rattle.pam_graph.proofs.direction.Direction.turn.Goals as goal
use Rattle.pam_graph.proofs.direction.Direction.turn.Goals.{After-least_number-number}
use Rattle.pam_paths.specs.Paths.{PathValue}

-- the walks by the edges that are left
left : (c : After-least_number-number) (wanted : Goal) (is_met : Bool) (known : List (List PathValue)) (m : ℕ) (codes : List ℕ) →
    part c.args.self (c.args.code ∷ codes) (wanted_by wanted is_met known m (edges_in c.args.self c.args.edges.now))
    ≡ part c.args.self (c.args.code ∷ codes)
    (wanted_by wanted is_met known m (c.edge-edge.result ∷ drop (c.loop-index.index + 1) (edges_in c.args.self c.args.edges.now)))
left c wanted is_met known m codes =
    c.loop-index.invariant wanted is_met known m codes
    ∙ ap (λ (es : List Edge). part c.args.self (c.args.code ∷ codes) (wanted_by wanted is_met known m es))
    (drop-in c.args.self c.args.edges.now c.loop-index.index c.edge-edge.result c.loop-index-test.true c.edge-edge.ensures)

in-order : (c : After-least_number-number) →
    AreOrdered c.args.self (c.edge-edge.result ∷ drop (c.loop-index.index + 1) (edges_in c.args.self c.args.edges.now))
in-order c = ordered-left c.args.self c.args.edges.now c.loop-index.index c.edge-edge.result c.requires c.loop-index-test.true c.edge-edge.ensures

pub returns-then-number-code-clause-turn : goal.returns-then-number-code-clause-turn
returns-then-number-code-clause-turn c wanted is_met known m codes =
    let k = (goal.at.returns-then-number-code-clause-turn c).After-least_number-number in
    left k wanted is_met known m codes
    ∙ turn-same c.args.self wanted is_met known m c.args.code codes c.edge-edge.result _ (in-order k)
    (sym c.least_number-number.ensures.value ∙ c.if-number-code.true)

pub returns-then-number-code-clause-above : goal.returns-then-number-code-clause-above
returns-then-number-code-clause-above c numbers low above =
    above-in c.args.self numbers low c.args.edges.now c.loop-index.index c.edge-edge.result above c.loop-index-test.true c.edge-edge.ensures

pub returns-then-is_beyond-clause-turn : goal.returns-then-is_beyond-clause-turn
returns-then-is_beyond-clause-turn c wanted is_met known m codes =
    let k = (goal.at.returns-then-is_beyond-clause-turn c).After-least_number-number in
    left k wanted is_met known m codes
    ∙ turn-beyond c.args.self wanted is_met known m c.args.code codes c.edge-edge.result _ (in-order k)
    (ap (is_beyond c.args.self c.args.code) (sym c.least_number-number.ensures.value) ∙ sym c.is_beyond.ensures ∙ c.if-is_beyond.true)
    ∙ sym (ap (wanted_by wanted is_met known m)
    (drop-in c.args.self c.args.edges.now c.loop-index.index c.edge-edge.result c.loop-index-test.true c.edge-edge.ensures))

pub loop-index-preserved : goal.loop-index-preserved
loop-index-preserved c wanted is_met known m codes =
    let k = (goal.at.loop-index-preserved c).After-least_number-number in
    left k wanted is_met known m codes
    ∙ turn-nearer c.args.self wanted is_met known m c.args.code codes c.edge-edge.result _
    (ap (is_beyond c.args.self c.args.code) (sym c.least_number-number.ensures.value) ∙ sym c.is_beyond.ensures ∙ c.if-is_beyond.false)
    (λ same. c.if-number-code.false (c.least_number-number.ensures.value ∙ same))

pub returns-clause-turn : goal.returns-clause-turn
returns-clause-turn c wanted is_met known m codes =
    let d = c.args.self in
    let edges = c.args.edges.now in
    let none = drop_all c.loop-index.index (edges_in d edges) (omega (arith, c.loop-index-test.false, length-in d edges)) in
    let all = drop_all (length edges) (edges_in d edges) (omega (arith, length-in d edges)) in
    c.loop-index.invariant wanted is_met known m codes
    ∙ ap (λ (es : List Edge). part d (c.args.code ∷ codes) (wanted_by wanted is_met known m es)) none
    ∙ sym (ap (wanted_by wanted is_met known m) all)
