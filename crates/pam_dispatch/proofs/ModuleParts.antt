-- The parts of the modules' controls, item by item.
use Rattle.std.proofs.Common.{◌≡◌, ℕ, ◌+◌, ◌<◌, ◌≤◌, List, [], ◌∷◌, ◌++◌, sym, subst, length, get_or, drop, append_assoc, append-nil}
use Rattle.std.specs.List.{AllZip}
use Rattle.std.proofs.lemmas.List.{drop_all}
use Rattle.pam_codes.specs.declared.action.Action.{Action}
use Rattle.pam_codes.specs.declared.parts.Part.{Part}
use Rattle.pam_codes.specs.Parts.{IsParts}
use Rattle.pam_dispatch.specs.declared.flat_item.FlatItem.{FlatItem}
use Rattle.pam_dispatch.specs.declared.flat_item.FlatItem.TheVariants.{Module, Substack}
use Rattle.pam_dispatch.specs.Flat.{controls_in}
use Rattle.pam_dispatch.proofs.Resume.{at_index}

-- the parts of the items from a place on complete those that are there
abbrev pub AreCompleted : List FlatItem → List (List Part) → ℕ → Type 0
AreCompleted ts parts at = (more : List (List Part)) → AllZip IsParts (controls_in (drop at ts)) more → AllZip IsParts (controls_in ts) (parts ++ more)

module _ (ts : List FlatItem) (at : ℕ) (parts : List (List Part)) (now : AreCompleted ts parts at) where
  pub parts-module : (past : FlatItem) (level number : ℕ) (control : List Action) (after : ℕ) (new : List Part) → at < length ts →
      get_or ts at past ≡ Module level number control after → IsParts control new → AreCompleted ts (parts ++ new ∷ []) (at + 1)
  unfolding controls_in
  parts-module past level number control after new within is divided more rest =
      rw append_assoc (now (new ∷ more)
      (subst (λ (x : List FlatItem). AllZip IsParts (controls_in x) (new ∷ more))
      (sym (at_index ts at past (Module level number control after) within is)) (divided, rest)))

  pub parts-substack : (past : FlatItem) (level : ℕ) → at < length ts → get_or ts at past ≡ Substack level → AreCompleted ts parts (at + 1)
  unfolding controls_in
  parts-substack past level within is more rest =
      now more (subst (λ (x : List FlatItem). AllZip IsParts (controls_in x) more) (sym (at_index ts at past (Substack level) within is)) rest)

  pub parts-end : length ts ≤ at → AllZip IsParts (controls_in ts) parts
  unfolding controls_in
  parts-end past =
      subst (AllZip IsParts (controls_in ts)) (append-nil parts)
      (now [] (subst (λ (x : List FlatItem). AllZip IsParts (controls_in x) []) (sym (drop_all at ts past)) tt))
