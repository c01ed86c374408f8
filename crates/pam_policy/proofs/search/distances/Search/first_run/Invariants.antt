-- the first run from where it has come to, after the steps so far, is the first run from the start
use Rattle.std.proofs.Common.{◌<◌, ◌≤◌, length}
use Rattle.pam_graph.specs.Walks.{walks_of, walks_to}
use Rattle.pam_graph.specs.inner.Within.{IsWithin}
use Rattle.pam_paths.specs.Known.{may_answer}
use Rattle.pam_policy.specs.declared.search.distances.TheConstants.{FAR}
use Rattle.pam_policy.specs.search.inner.Distances.{GoodAlong, IsFirst, after_steps}
use Rattle.pam_policy.specs.search.inner.Monitor.{first_state}
use Rattle.pam_policy.specs.search.inner.Searches.{IsLeastFrom}
use Rattle.pam_policy.specs.search.Runs.{RunValue}
use Rattle.pam_policy.specs.search.Witness.{AreApart}
use Rattle.pam_policy.proofs.search.distances.Search.first_run.Given as goal

abbrev pub invariant-loop-target : goal.invariant-loop-target
invariant-loop-target l = record {
  within : IsWithin (length l.nodes) l.target;
  state : l.state ≤ first_state l.self.query.now;
  below : l.left < FAR;
  least : IsLeastFrom l.self (walks_to (walks_of l.nodes) l.target) l.state l.left;
  first : AreApart l.nodes → (rest : RunValue) →
      IsFirst (GoodAlong (may_answer l.self.known.now) l.self.query.now (walks_to (walks_of l.nodes) l.target) l.state) rest →
      IsFirst (GoodAlong (may_answer l.self.known.now) l.self.query.now (walks_to (walks_of l.nodes) l.fn.start) (first_state l.self.query.now))
      (after_steps l.steps.items rest);
}

abbrev pub decreases-loop-target : goal.decreases-loop-target
decreases-loop-target l = l.left
