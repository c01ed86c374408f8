use Rattle.std.proofs.Common.{◌+◌, ◌<◌, ◌∙◌, arith, length, subst, suc, sym, zero, ℕ}
use Rattle.std.proofs.lemmas.List.{length-set}
use Rattle.pam_graph.specs.Walks.{walks_at}
use Rattle.pam_policy.specs.search.inner.Searches.{IsLeastFrom}
use Rattle.pam_policy.proofs.SearchProofs.Nodes.{states-more}
use Rattle.pam_policy.proofs.search.distances.Search.distances_from.Goals as goal

pub loop-state-preserved : goal.loop-state-preserved
loop-state-preserved c =
    let search = c.args.self.now in
    let node = c.args.node.now in
    let old = c.loop-state.distances in
    let i = c.from.result in
    let is = c.from.ensures in
    let few = c.first_state-states.ensures.few in
    let long = c.loop-state.invariant.len in
    let test = c.loop-state-test.true in
    let within : i < length old = omega (arith, is, few, long, test) in
    record {
      len = length-set old i c.distance_from.result ∙ long;
      far = λ known knows state low.
          states-more (λ s d. IsLeastFrom search (walks_at known node) s d) old i c.distance_from.result within
          (λ s l. c.loop-state.invariant.far known knows s (subst (λ (n : ℕ). s < n) is l))
          (subst (λ (s : ℕ). IsLeastFrom search (walks_at known node) s c.distance_from.result) (sym is) (c.distance_from.ensures known knows)) state
          (subst (λ (n : ℕ). state < n + 1) (sym is) low);
    }

pub returns : goal.returns
returns c known knows zero state l low =
    let last = c.first_state-states.ensures.value in
    let test = c.loop-state-test.false in
    c.loop-state.invariant.far known knows state (omega (arith, last, test, low))
returns c known knows (suc index) state l low = absurd (omega (arith, l))
