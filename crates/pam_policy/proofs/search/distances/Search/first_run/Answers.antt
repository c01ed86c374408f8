use Rattle.std.proofs.Common.{◌-◌, List, arith, length, refl, subst, sym, ℕ}
use Rattle.pam_graph.specs.declared.node.Target.{Target}
use Rattle.pam_graph.specs.Walks.{walks_of, walks_to}
use Rattle.pam_graph.specs.inner.Within.{IsWithin}
use Rattle.pam_graph.proofs.Withins.{start-within}
use Rattle.pam_paths.specs.Known.{may_answer}
use Rattle.pam_policy.specs.declared.search.run.Step.{Step}
use Rattle.pam_policy.specs.search.inner.Distances.{GoodAlong, IsFirst, after_answer, after_steps}
use Rattle.pam_policy.specs.search.inner.Monitor.{first_state}
use Rattle.pam_policy.specs.search.inner.Searches.{IsLeastFrom}
use Rattle.pam_policy.specs.search.Runs.{RunValue}
use Rattle.pam_policy.proofs.SearchProofs.Asking.{after-most}
use Rattle.pam_policy.proofs.SearchProofs.Distances.{ended}
use Rattle.pam_policy.proofs.SearchProofs.Firsts.{end-first}
use Rattle.pam_policy.proofs.SearchProofs.Nodes.{within-member}
use Rattle.pam_policy.proofs.SearchProofs.Onward.{asks-one, edges-within, first-onward, some-choice, steps-end, steps-then}
use Rattle.pam_policy.proofs.search.distances.Search.first_run.Goals as goal

pub loop-target-init : goal.loop-target-init
loop-target-init c =
    let search = c.args.self.now in
    let known = walks_of c.args.nodes.now in
    let start = c.args.start in
    let is = c.first_state-state.ensures.value in
    let least = c.distance_to-left.ensures known c.requires.far in
    record {
      within = start-within c.args.nodes.now 0 start c.requires.start;
      state = omega (arith, is);
      below = c.requires.some c.distance_to-left.result (subst (λ (s : ℕ). IsLeastFrom search (walks_to known start) s c.distance_to-left.result) is least);
      least = least;
      first = λ apart rest h.
          subst (λ (steps : List Step). IsFirst (GoodAlong (may_answer search.known.now) search.query.now (walks_to known start) (first_state search.query.now))
          (after_steps steps rest)) (sym c.new-steps.ensures.items)
          (subst (λ (s : ℕ). IsFirst (GoodAlong (may_answer search.known.now) search.query.now (walks_to known start) s) rest) is h);
    }

pub returns-in-End : goal.returns-in-End
returns-in-End c apart =
    let search = c.args.self.now in
    let allows = may_answer search.known.now in
    let query = search.query.now in
    let known = walks_of c.args.nodes.now in
    let state = c.loop-target.state in
    let decision = c.in-End.decision in
    let steps = c.loop-target.steps.items in
    let least = subst (λ (t : Target). IsLeastFrom search (walks_to known t) state c.loop-target.left) c.in-End.is c.loop-target.invariant.least in
    let run = ended allows query known state decision in
    let first = end-first allows query known state decision c.loop-target.left least c.loop-target.invariant.below in
    let here = subst (λ (t : Target). IsFirst (GoodAlong allows query (walks_to known t) state) run) (sym c.in-End.is) first in
    subst (λ (r : RunValue). IsFirst (GoodAlong allows query (walks_to known c.args.start) (first_state query)) r) (steps-end steps decision)
    (c.loop-target.invariant.first apart run here)

pub overflow_sub-left : goal.overflow_sub-left
overflow_sub-left c =
    let search = c.args.self.now in
    let nodes = c.args.nodes.now in
    let inside = subst (IsWithin (length nodes)) c.in-At.is c.loop-target.invariant.within in
    let least = subst (λ (t : Target). IsLeastFrom search (walks_to (walks_of nodes) t) c.loop-target.state c.loop-target.left) c.in-At.is
    c.loop-target.invariant.least in
    asks-one search nodes c.requires.order c.in-At.index c.index-nodes-index.result inside c.index-nodes-index.is c.loop-target.state c.loop-target.left least
    c.loop-target.invariant.below

pub choice-requires-clause-edges : goal.choice-requires-clause-edges
choice-requires-clause-edges c =
    let nodes = c.args.nodes.now in
    let inside = subst (IsWithin (length nodes)) c.in-At.is c.loop-target.invariant.within in
    edges-within c.args.self.now nodes c.requires.order c.in-At.index c.index-nodes-index.result inside c.index-nodes-index.is
    (length c.args.self.now.far.now) c.requires.len

pub unreachable-requires : goal.unreachable-requires
unreachable-requires c =
    let search = c.args.self.now in
    let nodes = c.args.nodes.now in
    let inside = subst (IsWithin (length nodes)) c.in-At.is c.loop-target.invariant.within in
    let least = subst (λ (t : Target). IsLeastFrom search (walks_to (walks_of nodes) t) c.loop-target.state c.loop-target.left) c.in-At.is
    c.loop-target.invariant.least in
    some-choice search nodes c.requires.order c.in-At.index c.index-nodes-index.result inside c.index-nodes-index.is c.loop-target.state
    c.loop-target.left least c.loop-target.invariant.below (c.in_default.ensures (walks_of nodes) c.requires.far)

pub loop-target-smaller : goal.loop-target-smaller
loop-target-smaller c =
    let search = c.args.self.now in
    let nodes = c.args.nodes.now in
    let inside = subst (IsWithin (length nodes)) c.in-At.is c.loop-target.invariant.within in
    let least = subst (λ (t : Target). IsLeastFrom search (walks_to (walks_of nodes) t) c.loop-target.state c.loop-target.left) c.in-At.is
    c.loop-target.invariant.least in
    let one = asks-one search nodes c.requires.order c.in-At.index c.index-nodes-index.result inside c.index-nodes-index.is c.loop-target.state
    c.loop-target.left least c.loop-target.invariant.below in
    omega (arith, one)

pub loop-target-preserved : goal.loop-target-preserved
loop-target-preserved c =
    let search = c.args.self.now in
    let allows = may_answer search.known.now in
    let query = search.query.now in
    let nodes = c.args.nodes.now in
    let known = walks_of nodes in
    let index = c.in-At.index in
    let node = c.index-nodes-index.result in
    let state = c.loop-target.state in
    let left = c.loop-target.left in
    let below = c.loop-target.invariant.below in
    let steps = c.loop-target.steps.items in
    let choice = c.in-Some.choice in
    let inside = subst (IsWithin (length nodes)) c.in-At.is c.loop-target.invariant.within in
    let least = subst (λ (t : Target). IsLeastFrom search (walks_to known t) state left) c.in-At.is c.loop-target.invariant.least in
    let is = c.in-Some.ensures known c.requires.far in
    let within = edges-within search nodes c.requires.order index node inside c.index-nodes-index.is (length nodes) refl in
    record {
      within = subst (IsWithin (length nodes)) (sym is.0.at.leads) (within-member (length nodes) node.edges.items is.0.edge within is.0.edge_in);
      state = after-most query node.module_number choice.code state choice.state c.loop-target.invariant.state is.0.at.is_next;
      below = omega (arith, below);
      least = subst (λ (t : Target). IsLeastFrom search (walks_to known t) choice.state (left - 1)) (sym is.0.at.leads) is.0.at.is_distance;
      first = λ apart rest h.
          let onward = first-onward search nodes c.requires.order index node inside c.index-nodes-index.is state left least below apart choice is rest h in
          let run = after_answer node.module_number choice.code rest in
          let here = subst (λ (t : Target). IsFirst (GoodAlong allows query (walks_to known t) state) run) (sym c.in-At.is) onward in
          let whole = c.loop-target.invariant.first apart run here in
          subst (λ (xs : List Step). IsFirst (GoodAlong allows query (walks_to known c.args.start) (first_state query)) (after_steps xs rest))
          (sym c.in_ok-push-in-At.ensures.items)
          (subst (λ (r : RunValue). IsFirst (GoodAlong allows query (walks_to known c.args.start) (first_state query)) r)
          (steps-then steps node.module_number choice.code rest) whole);
    }
