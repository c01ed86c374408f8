use Rattle.std.proofs.Common.{◌≡◌, ◌<◌, ◌≤◌, ℕ, false}
use Rattle.pam_tables.specs.inner.Flags.{is_set}
use Rattle.pam_tables.specs.inner.Groups.{lists_at}
use Rattle.pam_tables.proofs.memberships.Memberships.of.Given as goal

abbrev pub invariant-loop-index : goal.invariant-loop-index
invariant-loop-index l = record {
  found : (k : ℕ) → k < l.index → is_set l.listing.words k ≡ lists_at l.groups l.user k;
  unset : (k : ℕ) → l.index ≤ k → is_set l.listing.words k ≡ false;
}
