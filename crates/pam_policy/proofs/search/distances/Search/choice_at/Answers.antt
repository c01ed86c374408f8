use Rattle.std.proofs.Common.{refl, subst, sym, ℕ}
use Rattle.pam_graph.specs.Walks.{walks_to}
use Rattle.pam_policy.specs.search.inner.Searches.{IsLeastFrom}
use Rattle.pam_policy.proofs.search.distances.Search.choice_at.Goals as goal

pub returns : goal.returns
returns c known knows = record {
  same_code = refl;
  leads = refl;
  is_next = sym c.in_ok-next.ensures.value;
  is_distance = subst (λ (n : ℕ). IsLeastFrom c.args.self.now (walks_to known c.args.target.now) c.in_ok-next.next n) c.if-distance_to-distance.false
      (c.distance_to.ensures known knows);
}
