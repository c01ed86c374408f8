use Rattle.std.proofs.Common.{◌≡◌, ◌<◌, ◌*◌, ◌∙◌, List, refl, slice_index_or, ℕ, ap, arith, length, subst, sym, take}
use Rattle.std.proofs.lemmas.List.{length-replicate, length-take-le, take_all}
use Rattle.std.specs.List.{flat_map}
use Rattle.pam_graph.specs.declared.node.Edge.{Edge}
use Rattle.pam_graph.specs.declared.node.Node.{Node}
use Rattle.pam_graph.specs.inner.Accounts.{Accounts, deciders}
use Rattle.pam_graph.specs.Walks.{walks_by, walks_of, walks_to}
use Rattle.pam_graph.specs.inner.Within.{AreWithin}
use Rattle.pam_graph.proofs.Accounting.{begins, ends-are, node-left, one-way}
use Rattle.pam_graph.proofs.Sides.{valid}
use Rattle.pam_graph.proofs.Withins.{AreAbove-within}
use Rattle.pam_graph.proofs.ways.counts_of.Goals as goal

pub loop-number-init : goal.loop-number-init
loop-number-init c =
    let nodes = c.args.nodes.now in
    let start = c.args.start.now in
    let all = walks_to (walks_of nodes) start in
    let many : length c.in_ok-ways.ways.items ≡ length nodes = ap length c.in_ok-ways.ensures ∙ length-replicate (length nodes) _ in
    let long : length c.come_to.new.ways.items ≡ length nodes = c.come_to.ensures.long ∙ many in
    record {
      few = c.come_to.ensures.few;
      within = omega (arith, long);
      accounts = subst (λ (ns : List Node). Accounts all (walks_of ns) c.come_to.new.ends.items c.come_to.new.ways.items (λ test. 0))
          (sym (ap (λ (n : ℕ). take n nodes) long ∙ take_all (length nodes) nodes (omega arith)))
          (c.come_to.ensures.accounts all (walks_of nodes) 1 (λ test. 0) one-way
          (begins all (walks_of nodes) c.in_ok-ends.ends.items c.in_ok-ways.ways.items (length nodes) start c.in_ok-ends.ensures c.in_ok-ways.ensures refl));
    }

pub go_on_by-requires-clause-within : goal.go_on_by-requires-clause-within
go_on_by-requires-clause-within c =
    let nodes = c.args.nodes.now in
    let node = c.index-nodes-len.result in
    let j = length c.pop.new.self.items in
    let l : j < length nodes = omega (arith, c.in-Some.ensures.cases, c.loop-number.invariant.within) in
    let count : c.len.result ≡ length c.pop.new.self.items = omega (arith, c.len.ensures, c.pop.new.self.ok) in
    let at : node ≡ slice_index_or nodes j node =
    c.index-nodes-len.is ∙ ap (λ (n : ℕ). slice_index_or nodes n node) count in
    subst (λ (es : List Edge). AreWithin j es) (sym c.deref.ensures.value)
    (subst (λ (n : ℕ). AreWithin n node.edges.items) (length-take-le j nodes (omega (arith, l)))
    (AreAbove-within (take j nodes) node.module_number node.edges.items (valid nodes c.requires.order j node l at).later))

pub loop-number-preserved : goal.loop-number-preserved
loop-number-preserved c =
    let nodes = c.args.nodes.now in
    let all = walks_to (walks_of nodes) c.args.start.now in
    let node = c.index-nodes-len.result in
    let new = c.pop.new.self.items in
    let l : length new < length nodes = omega (arith, c.in-Some.ensures.cases, c.loop-number.invariant.within) in
    let count : c.len.result ≡ length c.pop.new.self.items = omega (arith, c.len.ensures, c.pop.new.self.ok) in
    let at : node ≡ slice_index_or nodes (length new) node =
    c.index-nodes-len.is ∙ ap (λ (n : ℕ). slice_index_or nodes n node) count in
    let left = node-left all nodes c.loop-number.ends.items c.loop-number.ways.items new c.in-Some.number node
    c.in-Some.ensures.items l at c.loop-number.invariant.accounts in
    let known = walks_of (take (length new) nodes) in
    record {
      few = c.go_on_by.ensures.few;
      within = omega (arith, c.go_on_by.ensures.long, l);
      accounts = subst (λ (n : ℕ). Accounts all (walks_of (take n nodes)) c.go_on_by.new.ends.items c.go_on_by.new.ways.items (λ test. 0))
          (sym c.go_on_by.ensures.long)
          (c.go_on_by.ensures.accounts all known left.0 node.module_number left.1
          (subst
          (λ (es : List Edge). Accounts all known c.loop-number.ends.items new
          (λ test. left.0 * deciders test (flat_map (walks_by known node.module_number) es)))
          (sym c.deref.ensures.value) left.2));
    }

pub returns : goal.returns
returns c =
    ends-are (walks_to (walks_of c.args.nodes.now) c.args.start.now) (walks_of (take (length c.loop-number.ways.items) c.args.nodes.now))
    c.loop-number.ends.items c.loop-number.ways.items c.loop-number.invariant.few
    (omega (arith, c.in_default.ensures.cases.0, c.loop-number.ways.ok)) c.loop-number.invariant.accounts
