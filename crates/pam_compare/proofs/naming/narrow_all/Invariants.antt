use Rattle.std.proofs.Common.{◌≡◌, ◌<◌, ◌≤◌, ℕ, length, true}
use Rattle.pam_dispatch.specs.Runs.{Assignment}
use Rattle.pam_compare.specs.Names.{name_of}
use Rattle.pam_compare.specs.inner.Naming.{IsPossible}
use Rattle.pam_compare.proofs.naming.narrow_all.Given as goal

abbrev pub invariant-loop-index : goal.invariant-loop-index
invariant-loop-index g l = record {
  count : length l.sets.items ≡ length l.fn.sets.items;
  possible : (a : Assignment) → ((name : ℕ) → a name < 31) →
      ((j : ℕ) → 0 < j → j ≤ l.modules → g.K.Knowledge.allows l.known j (a (name_of l.names j)) ≡ true) →
      IsPossible l.fn.sets.items a → IsPossible l.sets.items a;
  exact : (a : Assignment) → IsPossible l.sets.items a →
      IsPossible l.fn.sets.items a × ((j : ℕ) → 0 < j → j ≤ l.index → g.K.Knowledge.allows l.known j (a (name_of l.names j)) ≡ true);
}
