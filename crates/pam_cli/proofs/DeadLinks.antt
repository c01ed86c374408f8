-- The entries of a folder that lead nowhere, one after another.
use Rattle.std.proofs.Common.{◌≡◌, Bool, List, ◌∷◌, false, inl, inr, not, refl, subst, true}
use Rattle.clap.specs.Words.{Text}
use Rattle.pam_conf.specs.Files.{Named}
use Rattle.pam_cli.specs.DeadLinks.{AreAdded, IsDead}
use Rattle.pam_cli.specs.Sources.{is_given}
use Rattle.pam_cli.specs.System.{PlaceText, Told, entry_at, is_there}
use Rattle.pam_cli.specs.inner.DeadLinks.{AddsEntry}
use Rattle.pam_cli.specs.declared.system.Found.{Found}
use Rattle.pam_cli.proofs.Added.{as_found}

module _ (told : Told) (folder : PlaceText) (files : List Named) where
  -- a name that a file has
  pub given : (name called : Text) (found : Bool) → found ≡ is_given called files → called ≡ name → found ≡ true → IsDead told folder files name false
  given name called found is same there = inl (as_found name called files found true is same there, refl)

  -- what is at the entry of another name
  pub looked : (name called : Text) (has : Bool) (place : PlaceText) (found : Found) (dead : Bool) → has ≡ is_given called files → called ≡ name
      → has ≡ false → place ≡ entry_at folder name → told.look place found → dead ≡ not (is_there found) → IsDead told folder files name dead
  looked name called has place found dead is same none at look there =
      inr (as_found name called files has false is same none, found, subst (λ (p : PlaceText). told.look p found) at look, there)

  -- an entry, and then those that are left
  pub then-added : (name : Text) (names old new all : List Text) → AddsEntry told folder files name old new → AreAdded told folder files names new all
      → AreAdded told folder files (name ∷ names) old all
  then-added name names old new all entry added =
      (entry.0, entry.1, subst (λ (l : List Text). AreAdded told folder files names l all) entry.2 added)
