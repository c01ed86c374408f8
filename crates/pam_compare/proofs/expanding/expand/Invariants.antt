use Rattle.std.proofs.Common.{◌≡◌, ◌<◌, ◌+◌, ℕ, true, false, Some, length, slice_get}
use Rattle.pam_codes.specs.Set.{codes_where, is_in}
use Rattle.pam_dispatch.specs.Flat.{rest_of}
use Rattle.pam_dispatch.specs.Runs.{Assignment}
use Rattle.pam_compare.specs.declared.nodes.Way.{Way}
use Rattle.pam_compare.specs.Held.{Holds}
use Rattle.pam_compare.specs.inner.Naming.{IsPossible}
use Rattle.pam_compare.specs.inner.Nodes.{AreNodes, IsMet, KeepsNodes}
use Rattle.pam_compare.specs.Walks.{HaveOneOutcome, new_after, old_after, turn_name}
use Rattle.pam_compare.specs.inner.Ways.{AreOrdered, AreReached, AreWalked}
use Rattle.pam_compare.proofs.expanding.expand.Given as goal

abbrev pub invariant-loop-code : goal.invariant-loop-code
invariant-loop-code l =
    let old = l.pair.old.now in
    let new = l.pair.new.now in
    let naming = l.pair.naming.now in
    let node = l.fork.node.now in
    record {
      keeps : KeepsNodes l.fn.nodes l.nodes;
      nodes : AreNodes old new l.nodes;
      reached : AreReached old new naming.names.items naming.possible.items l.nodes;
      ordered : AreOrdered l.nodes.ways.items (l.fork.index + 1);
      apart : (j : ℕ) (w : Way) → 0 < j → slice_get l.nodes.ways.items j ≡ Some w → w.parent ≡ l.fork.index → (d : ℕ) → is_in d l.left ≡ true →
          is_in d w.class ≡ true → ⊥;
      walked : AreWalked old new naming l.nodes;
      closed : (c d : ℕ) → d < 31 → is_in c l.left ≡ true → is_in d l.initial.left ≡ true →
          HaveOneOutcome l.fork.turn (rest_of old node.old) (rest_of new node.new) c d → is_in d l.left ≡ true;
      within : (d : ℕ) → is_in d l.left ≡ true → is_in d l.initial.left ≡ true;
      met : (a : Assignment) → IsPossible naming.possible.items a → Holds a node.held.items →
          is_in (a (turn_name naming.names.items l.fork.turn)) l.left ≡ false →
          IsMet old new l.nodes a (old_after l.fork.turn (rest_of old node.old) (a (turn_name naming.names.items l.fork.turn)))
          (new_after l.fork.turn (rest_of new node.new) (a (turn_name naming.names.items l.fork.turn)));
    }

abbrev pub decreases-loop-code : goal.decreases-loop-code
decreases-loop-code l = length (codes_where (λ c. is_in c l.left))
