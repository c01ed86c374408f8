use Rattle.std.proofs.Common.{◌≡◌, ◌≤◌, length, take}
use Rattle.pam_codes.specs.declared.code.TheConstants.{CODES}
use Rattle.pam_graph.specs.Walks.{walks_of, walks_to}
use Rattle.pam_graph.specs.inner.Accounts.{Accounts}
use Rattle.pam_graph.proofs.ways.counts_of.Given as goal

abbrev pub invariant-loop-number : goal.invariant-loop-number
invariant-loop-number l = record {
  few : length l.ends.items ≡ CODES;
  within : length l.ways.items ≤ length l.nodes;
  accounts : Accounts (walks_to (walks_of l.nodes) l.start) (walks_of (take (length l.ways.items) l.nodes)) l.ends.items l.ways.items (λ test. 0);
}

abbrev pub decreases-loop-number : goal.decreases-loop-number
decreases-loop-number l = length l.ways.items
