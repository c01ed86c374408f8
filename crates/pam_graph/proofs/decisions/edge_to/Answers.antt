use Rattle.std.proofs.Common.{◌≡◌, ◌+◌, ◌∙◌, ◌∷◌, List, ℕ, ap, drop, length, refl, subst, sym}
use Rattle.std.proofs.lemmas.List.{drop_all}
use Rattle.std.specs.List.{flat_map}
use Rattle.pam_graph.specs.declared.node.Edge.{Edge}
use Rattle.pam_graph.specs.inner.Deciding.{first_deciding, leads_to}
use Rattle.pam_graph.specs.Order.{AreAbove}
use Rattle.pam_graph.specs.Walks.{walks_by}
use Rattle.pam_graph.specs.inner.Within.{AreWithin}
use Rattle.pam_graph.proofs.Deciding.{skip-edge, some-first, take-edge}
use Rattle.pam_graph.proofs.Remaining.{item-left}
use Rattle.pam_graph.proofs.decisions.edge_to.Goals as goal
use Rattle.pam_graph.proofs.decisions.edge_to.Goals.{After-edge-item}

left : (c : After-edge-item) →
    drop c.loop-edge.edge-index c.args.edges.now ≡ c.edge-item.result ∷ drop (c.loop-edge.edge-index + 1) c.args.edges.now
left c = item-left c.args.edges.now c.loop-edge.edge-index c.edge-item.result c.loop-edge-test.true c.edge-item.is

pub loop-edge-init : goal.loop-edge-init
loop-edge-init c = record {
  within = c.requires;
  skipped = λ walks number same. refl;
  above = λ numbers low h. h;
}

pub leads_to-requires : goal.leads_to-requires
unfolding AreWithin
leads_to-requires c = (subst (AreWithin (length c.args.known.now)) (left c) c.loop-edge.invariant.within).0

pub returns-then-leads_to-clause-some : goal.returns-then-leads_to-clause-some
returns-then-leads_to-clause-some c walks number same =
    let code = c.args.code in
    let e = c.edge-item.result in
    let k = (goal.at.returns-then-leads_to-clause-some c).After-edge-item in
    c.loop-edge.invariant.skipped walks number same
    ∙ ap (λ (es : List Edge). first_deciding code (flat_map (walks_by walks number) es)) (left k)
    ∙ take-edge walks code number e (drop (c.loop-edge.edge-index + 1) c.args.edges.now) c.leads_to.ensures.code
    (ap (λ (x : List (List ℕ)). leads_to x code e.target) (sym same) ∙ sym c.leads_to.ensures.leads ∙ c.if-leads_to.true)

pub returns-then-leads_to-clause-leads : goal.returns-then-leads_to-clause-leads
returns-then-leads_to-clause-leads c walks same =
    let e = c.edge-item.result in
    some-first walks c.args.code e.target c.leads_to.ensures.code
    (ap (λ (x : List (List ℕ)). leads_to x c.args.code e.target) (sym same) ∙ sym c.leads_to.ensures.leads ∙ c.if-leads_to.true)

pub returns-then-leads_to-clause-above : goal.returns-then-leads_to-clause-above
unfolding AreAbove
returns-then-leads_to-clause-above c numbers low h =
    let k = (goal.at.returns-then-leads_to-clause-above c).After-edge-item in
    (subst (AreAbove numbers low) (left k) (c.loop-edge.invariant.above numbers low h)).0

pub loop-edge-preserved : goal.loop-edge-preserved
unfolding AreAbove AreWithin
loop-edge-preserved c =
    let code = c.args.code in
    let e = c.edge-item.result in
    let k = (goal.at.loop-edge-preserved c).After-edge-item in
    record {
      within = (subst (AreWithin (length c.args.known.now)) (left k) c.loop-edge.invariant.within).1;
      skipped = λ walks number same. c.loop-edge.invariant.skipped walks number same
          ∙ ap (λ (es : List Edge). first_deciding code (flat_map (walks_by walks number) es)) (left k)
          ∙ skip-edge walks code number e (drop (c.loop-edge.edge-index + 1) c.args.edges.now) c.leads_to.ensures.code
          (ap (λ (x : List (List ℕ)). leads_to x code e.target) (sym same) ∙ sym c.leads_to.ensures.leads ∙ c.if-leads_to.false);
      above = λ numbers low h. (subst (AreAbove numbers low) (left k) (c.loop-edge.invariant.above numbers low h)).1;
    }

pub returns-clause-none : goal.returns-clause-none
unfolding first_deciding
returns-clause-none c walks number same =
    c.loop-edge.invariant.skipped walks number same
    ∙ ap (λ (es : List Edge). first_deciding c.args.code (flat_map (walks_by walks number) es))
    (drop_all c.loop-edge.edge-index c.args.edges.now c.loop-edge-test.false)
