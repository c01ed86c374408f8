use Rattle.std.proofs.Common.{◌≡◌, ◌<◌, ◌≤◌, ℕ, length}
use Rattle.pam_compare.specs.Names.{name_of}
use Rattle.pam_compare.proofs.naming.last_of.Given as goal

abbrev pub invariant-loop : goal.invariant-loop
invariant-loop l = record {
  count : length l.last.items ≡ l.counter;
  zero : (name : ℕ) → name_of l.last.items name ≡ 0;
}

abbrev pub invariant-loop-number : goal.invariant-loop-number
invariant-loop-number l = record {
  count : length l.last.items ≡ l.count;
  rising : (k : ℕ) → 0 < k → k < l.number → k < length l.names → k ≤ name_of l.last.items (name_of l.names k);
  found : (name : ℕ) → 0 < name_of l.last.items name →
      (name_of l.last.items name < length l.names) × (name_of l.names (name_of l.last.items name) ≡ name);
}
