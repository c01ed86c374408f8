use Rattle.std.proofs.Common.{◌≡◌, ◌<◌, ℕ, true, Some}
use Rattle.std.specs.Prelude.{slice_get}
use Rattle.pam_codes.specs.Set.{is_in}
use Rattle.pam_dispatch.specs.Runs.{Assignment}
use Rattle.pam_compare.specs.declared.held.HeldAnswer.{HeldAnswer}
use Rattle.pam_compare.specs.Held.{Holds}
use Rattle.pam_compare.specs.Walks.{IsLeft}
use Rattle.pam_compare.proofs.held.held_codes.Given as goal

abbrev pub invariant-loop-index : goal.invariant-loop-index
invariant-loop-index l = record {
  kept : (a : Assignment) → a l.name < 31 → Holds a l.held → is_in (a l.name) l.fn.codes ≡ true → is_in (a l.name) l.left ≡ true;
  within : (x : ℕ) → is_in x l.left ≡ true → is_in x l.fn.codes ≡ true;
  left : (i : ℕ) (h : HeldAnswer) → i < l.index → slice_get l.held i ≡ Some h → h.name ≡ l.name → (x : ℕ) → is_in x l.left ≡ true →
      is_in x h.codes ≡ true;
  all : (x : ℕ) → x < 31 → is_in x l.fn.codes ≡ true → IsLeft l.held l.name x → is_in x l.left ≡ true;
}
