-- What the distance of the start and the first run say of a stack.
use Rattle.std.proofs.Common.{◌≡◌, ℕ, [], arith}
use Rattle.pam_conf.specs.Stack.{Items}
use Rattle.pam_graph.specs.Order.{AreNodes, IsStart}
use Rattle.pam_graph.specs.Walks.{GraphValue, walks}
use Rattle.pam_paths.specs.Listing.{Allowance}
use Rattle.pam_policy.specs.declared.search.distances.TheConstants.{FAR}
use Rattle.pam_policy.specs.declared.search.query.Query.{Query}
use Rattle.pam_policy.specs.search.inner.Distances.{GoodAlong, IsDistance, IsFirst}
use Rattle.pam_policy.specs.search.inner.Monitor.{first_state}
use Rattle.pam_policy.specs.search.Runs.{RunValue}
use Rattle.pam_policy.specs.search.Witness.{IsFound, IsGraphOf, IsWitness}
use Rattle.pam_policy.proofs.SearchProofs.Along.{found-good, good-found}
use Rattle.pam_policy.proofs.SearchProofs.Short.{good-short}

module _ (allows : Allowance) (items : Items) (query : Query) (graph : GraphValue) (of : IsGraphOf allows items graph) where
  -- where no run is near, none is found
  pub none-found : AreNodes [] graph.nodes → IsStart graph.nodes graph.start → (distance : ℕ) →
      IsDistance allows query (walks graph) (first_state query) distance → distance ≡ FAR → (run : RunValue) → IsFound allows items query run → ⊥
  none-found order above distance least far run f =
      let good = found-good allows items graph query of run f in
      omega (arith, least.least run good, far, good-short graph.nodes order allows query graph.start (first_state query) run above good)

  -- the first run is the witness
  pub first-witness : (run : RunValue) → IsFirst (GoodAlong allows query (walks graph) (first_state query)) run → IsWitness allows items query run
  first-witness run h = record {
    found = good-found allows items graph query of run h.such;
    fewest = λ other f. h.fewest other (found-good allows items graph query of other f);
    first = λ other f same. h.first other (found-good allows items graph query of other f) same;
  }
