use Rattle.std.proofs.Common.{◌≡◌, ◌*◌, ◌+◌, ◌∙◌, ◌∷◌, List, ℕ, ap, drop, length, refl, subst, sym}
use Rattle.std.proofs.lemmas.List.{drop_all}
use Rattle.std.specs.List.{flat_map}
use Rattle.pam_graph.specs.declared.node.Edge.{Edge}
use Rattle.pam_graph.specs.Walks.{walks_by, walks_to}
use Rattle.pam_graph.specs.inner.Accounts.{deciders}
use Rattle.pam_graph.specs.inner.Within.{AreWithin}
use Rattle.pam_graph.proofs.Accounting.{edges-left, left-is, none-left}
use Rattle.pam_graph.proofs.Remaining.{item-left}
use Rattle.pam_graph.proofs.ways.go_on_by.Goals as goal
use Rattle.pam_graph.proofs.ways.go_on_by.Goals.{After-edge-item}

left : (c : After-edge-item) →
    drop c.loop-edge.edge-index c.args.edges.now ≡ c.edge-item.result ∷ drop (c.loop-edge.edge-index + 1) c.args.edges.now
left c = item-left c.args.edges.now c.loop-edge.edge-index c.edge-item.result c.loop-edge-test.true c.edge-item.is

pub loop-edge-init : goal.loop-edge-init
loop-edge-init c = record {
  few = c.requires.few;
  long = refl;
  within = c.requires.within;
  accounts = λ all known n m is a. a;
}

pub come_to-requires-clause-within : goal.come_to-requires-clause-within
unfolding AreWithin
come_to-requires-clause-within c =
    let k = (goal.at.come_to-requires-clause-within c).After-edge-item in
    (subst (AreWithin (length c.loop-edge.ways.items)) (left k) c.loop-edge.invariant.within).0

pub loop-edge-preserved : goal.loop-edge-preserved
unfolding AreWithin
loop-edge-preserved c =
    let k = (goal.at.loop-edge-preserved c).After-edge-item in
    let rest = drop (c.loop-edge.edge-index + 1) c.args.edges.now in
    let edge = c.edge-item.result in
    record {
      few = c.come_to.ensures.few;
      long = c.come_to.ensures.long ∙ c.loop-edge.invariant.long;
      within = subst (λ (n : ℕ). AreWithin n rest) (sym c.come_to.ensures.long)
          (subst (AreWithin (length c.loop-edge.ways.items)) (left k) c.loop-edge.invariant.within).1;
      accounts = λ all known n m is a. c.come_to.ensures.accounts all known n (λ test. n * deciders test (flat_map (walks_by known m) rest)) is
          (left-is all known c.loop-edge.ends.items c.loop-edge.ways.items
          (λ test. n * deciders test (flat_map (walks_by known m) (drop c.loop-edge.edge-index c.args.edges.now)))
          (λ test. n * deciders test (walks_to known edge.target) + n * deciders test (flat_map (walks_by known m) rest))
          (λ test. edges-left known m n test edge rest
          ∙ ap (λ (es : List Edge). n * deciders test (flat_map (walks_by known m) es)) (sym (left k)))
          (c.loop-edge.invariant.accounts all known n m is a));
    }

pub returns-clause-accounts : goal.returns-clause-accounts
returns-clause-accounts c all known n m is a =
    left-is all known c.loop-edge.ends.items c.loop-edge.ways.items
    (λ test. n * deciders test (flat_map (walks_by known m) (drop c.loop-edge.edge-index c.args.edges.now)))
    (λ test. 0)
    (λ test. none-left known m n test
    ∙ ap (λ (es : List Edge). n * deciders test (flat_map (walks_by known m) es))
    (sym (drop_all c.loop-edge.edge-index c.args.edges.now c.loop-edge-test.false)))
    (c.loop-edge.invariant.accounts all known n m is a)
