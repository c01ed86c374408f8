use Rattle.std.proofs.Common.{◌∙◌, [], arith, refl, slice_index_or, subst, sym, ℕ}
use Rattle.pam_graph.specs.declared.node.Target.{Target}
use Rattle.pam_graph.specs.Walks.{walks_to}
use Rattle.pam_graph.specs.inner.Within.{IsWithin}
use Rattle.pam_paths.specs.Known.{may_answer}
use Rattle.pam_policy.specs.search.inner.Searches.{IsLeastFrom}
use Rattle.pam_policy.proofs.SearchProofs.Distances.{end-good, end-not}
use Rattle.pam_policy.proofs.search.distances.Search.distance_to.Goals as goal
use Rattle.std.proofs.Common.{length}

pub bounds-self-from : goal.bounds-self-from
bounds-self-from c =
    let few = c.first_state-last.ensures.few in
    let last = c.first_state-last.ensures.value in
    omega (arith, few, last, c.requires.state, c.from.ensures)

pub returns-in-At : goal.returns-in-At
returns-in-At c known knows =
    let search = c.args.self.now in
    let index = c.in-At.index in
    let within = subst (IsWithin (length search.far.now)) c.in-At.is c.requires.target in
    subst (λ (t : Target). IsLeastFrom search (walks_to known t) c.args.state (slice_index_or (slice_index_or search.far.now index []) c.from.result 0))
    (sym c.in-At.is)
    (subst (λ (s : ℕ). IsLeastFrom search (slice_index_or known index []) c.args.state (slice_index_or (slice_index_or search.far.now index []) s 0))
    (sym c.from.ensures) (knows index c.args.state within c.requires.state))

pub returns-then-is_good : goal.returns-then-is_good
returns-then-is_good c known knows =
    let search = c.args.self.now in
    subst (λ (t : Target). IsLeastFrom search (walks_to known t) c.args.state 0) (sym c.in-End.is)
    (end-good (may_answer search.known.now) search.query.now known c.args.state c.in-End.decision (sym c.is_good.ensures ∙ c.if-is_good.true))

pub returns-else-is_good : goal.returns-else-is_good
returns-else-is_good c known knows =
    let search = c.args.self.now in
    subst (λ (t : Target). IsLeastFrom search (walks_to known t) c.args.state 65535) (sym c.in-End.is)
    (end-not (may_answer search.known.now) search.query.now known c.args.state c.in-End.decision 65535 refl (sym c.is_good.ensures ∙ c.if-is_good.false))
