use Rattle.std.proofs.Common.{◌≡◌, ◌≢◌, ◌⊎◌, ◌+◌, ◌<◌, ◌&&◌, ◌∷◌, ◌++◌, [], ℕ, Some, cond, filter, length}
use Rattle.std.specs.Prelude.{IsTrue, slice_get, take}
use Rattle.pam_codes.specs.Set.{is_in}
use Rattle.pam_dispatch.specs.Runs.{Assignment}
use Rattle.pam_compare.specs.declared.held.HeldAnswer.{HeldAnswer}
use Rattle.pam_compare.specs.Held.{Holds}
use Rattle.pam_compare.specs.inner.Naming.{AreLast}
use Rattle.pam_compare.specs.Walks.{is_ahead, tells}
use Rattle.pam_compare.specs.inner.Held.{AreTables, IsNumber, is_wanted}
use Rattle.pam_compare.specs.inner.Trails.{IsPast, IsSettled}
use Rattle.pam_compare.proofs.held.held_after.Given as goal

abbrev pub invariant-loop-index : goal.invariant-loop-index
invariant-loop-index l = record {
  holds : (a : Assignment) → Holds a l.held → IsTrue (is_in (a l.fn.answer.name) l.fn.answer.codes) → Holds a l.latest.items;
  adds : (modules : ℕ) → length l.naming.names.items ≡ modules + 1 → AreLast l.naming.names.items l.naming.last.items →
      ((k : ℕ) × (slice_get l.latest.items k ≡ Some l.fn.answer))
      ⊎ IsSettled l.naming.possible.items l.naming.names.items l.naming.old_modules modules l.fn.answer.name l.fn.answer.codes l.step.old l.step.new;
  keeps : (modules : ℕ) → length l.naming.names.items ≡ modules + 1 → AreLast l.naming.names.items l.naming.last.items →
      (i : ℕ) (h : HeldAnswer) → i < l.index → slice_get l.held i ≡ Some h → h.name ≢ l.fn.answer.name →
      ((k : ℕ) × (slice_get l.latest.items k ≡ Some h)) ⊎ IsPast l.naming.names.items l.naming.old_modules modules h.name l.step.old l.step.new;
  exact : (modules : ℕ) → AreTables l.naming modules → IsNumber l.step.new → l.latest.items
      ≡ cond (tells l.naming.possible.items l.fn.answer && is_ahead l.naming.names.items l.naming.old_modules modules l.fn.answer.name l.step.old l.step.new)
      (l.fn.answer ∷ []) []
      ++ filter (λ h. is_wanted l.naming.names.items l.naming.old_modules modules l.fn.answer.name l.step.old l.step.new h.name) (take l.index l.held);
}
