-- For private contracts and proofs alone: what is found of stacks, one after another.
use Rattle.std.specs.Prelude.{◌≡◌, ◌⊎◌, ℕ, All, List, map, slice_get, Option, Some, None}
use Rattle.pam_conf.specs.Stack.{Items}
use Rattle.pam_conf.specs.declared.rule.Kind.{Kind}
use Rattle.pam_changes.specs.Changes.{AreToldFirst, HasItems, IsStack}
use Rattle.pam_changes.specs.Pairs.{IsPair}
use Rattle.pam_changes.specs.Sides.{SidesText}
use Rattle.pam_changes.specs.declared.pair.StackPair.{StackPair}
use Rattle.pam_changes.specs.declared.stacks.ComparedStack.{ComparedStack}
use Rattle.pam_changes.specs.declared.stacks.Found.{Found}
use Rattle.pam_changes.specs.declared.stacks.StackChange.{StackChange}
use Rattle.pam_changes.specs.declared.stacks.StackChange.TheVariants as changes

-- a service and a kind
abbrev pub asked_of : ComparedStack → ℕ × Kind
asked_of s = (s.service, s.kind)

-- WHAT IS FOUND SO FAR, of these services and kinds
pub record IsFound (sides : SidesText) (names : List (List ℕ)) (asked : List (ℕ × Kind)) (found : Found) : Type 0 where
  pub order : map asked_of found.stacks.items ≡ asked
  pub stacks : All (IsStack sides names found.pairs.items) found.stacks.items
  pub pairs : All (IsPair sides) found.pairs.items
  pub told : AreToldFirst found.stacks.items found.pairs.items

-- the pair at a position has the items of these stacks
abbrev pub HasItemsAt : Kind → Items → Items → Option StackPair → Type 0
HasItemsAt kind old new None = ⊥
HasItemsAt kind old new (Some pair) = HasItems kind old new pair

-- pairs stay where they are
unfoldable pub KeepsPairs : List StackPair → List StackPair → Type 0
KeepsPairs before after = (k : ℕ) (pair : StackPair) → slice_get before k ≡ Some pair → slice_get after k ≡ Some pair

-- each pair was there before, or else it has this service, and the change is what it says
unfoldable pub TellsNew : List StackPair → ℕ → StackChange → List StackPair → Type 0
TellsNew before service change after = (k : ℕ) (pair : StackPair) → slice_get after k ≡ Some pair →
    (slice_get before k ≡ Some pair) ⊎ ((slice_get before k ≡ None) × (change ≡ changes.Differs k) × (pair.service ≡ service))

-- pairs are added, and nothing else
pub record AddsPairs (sides : SidesText) (before after : Found) : Type 0 where
  pub keeps : KeepsPairs before.pairs.items after.pairs.items
  pub stacks : after.stacks.items ≡ before.stacks.items
  pub pairs : All (IsPair sides) before.pairs.items → All (IsPair sides) after.pairs.items
