use Rattle.std.proofs.Common.{◌≡◌, ◌+◌, ◌<◌, ◌≤◌, ℕ, length}
use Rattle.pam_compare.specs.Names.{IsName, name_of}
use Rattle.pam_compare.proofs.naming.names_of.Given as goal

abbrev pub invariant-loop-index : goal.invariant-loop-index
invariant-loop-index g l = record {
  count : length l.names.items ≡ l.index + 1;
  named : (j : ℕ) → 0 < j → j ≤ l.index →
      IsName (g.K.Knowledge.allows l.sides.old_known.now) (g.L.Knowledge.allows l.sides.new_known.now) l.old_modules l.sides.matching.now j
      (name_of l.names.items j);
}
