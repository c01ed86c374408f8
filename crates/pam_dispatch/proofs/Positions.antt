-- The positions of the modules, item by item.
use Rattle.std.proofs.Common.{◌≡◌, ℕ, ◌+◌, ◌<◌, ◌≤◌, List, [], ◌∷◌, ◌++◌, sym, ◌∙◌, ap, length, get_or, drop, append_assoc, append-nil}
use Rattle.std.proofs.lemmas.List.{drop_all}
use Rattle.pam_codes.specs.declared.action.Action.{Action}
use Rattle.pam_dispatch.specs.declared.flat_item.FlatItem.{FlatItem}
use Rattle.pam_dispatch.specs.declared.flat_item.FlatItem.TheVariants.{Module, Substack}
use Rattle.pam_dispatch.specs.inner.Flat.{positions_from}
use Rattle.pam_dispatch.proofs.Resume.{at_index}

module _ (ts : List FlatItem) (at : ℕ) (before : List ℕ) where
  pub positions-module : (past : FlatItem) (level number : ℕ) (control : List Action) (after : ℕ) → at < length ts →
      get_or ts at past ≡ Module level number control after →
      (before ++ at ∷ []) ++ positions_from (at + 1) (drop (at + 1) ts) ≡ before ++ positions_from at (drop at ts)
  unfolding positions_from
  positions-module past level number control after within is =
      append_assoc before (at ∷ []) (positions_from (at + 1) (drop (at + 1) ts))
      ∙ ap (λ (x : List FlatItem). before ++ positions_from at x) (sym (at_index ts at past (Module level number control after) within is))

  pub positions-substack : (past : FlatItem) (level : ℕ) → at < length ts → get_or ts at past ≡ Substack level →
      before ++ positions_from (at + 1) (drop (at + 1) ts) ≡ before ++ positions_from at (drop at ts)
  unfolding positions_from
  positions-substack past level within is =
      ap (λ (x : List FlatItem). before ++ positions_from at x) (sym (at_index ts at past (Substack level) within is))

  pub positions-end : length ts ≤ at → before ++ positions_from at (drop at ts) ≡ before
  unfolding positions_from
  positions-end past =
      ap (λ (x : List FlatItem). before ++ positions_from at x) (drop_all at ts past) ∙ append-nil before
