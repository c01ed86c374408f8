-- What changes from one configuration to another: pam.conf(5).
use Rattle.std.specs.Prelude.{◌≡◌, ◌==◌, ℕ, zero, suc, ◌+◌, ◌++◌, Bool, false, List, [], ◌∷◌, All, length, map, slice_get, unwrap_or}
use Rattle.std.specs.Prelude.{Option, Some, None, Result, Ok, Err}
use Rattle.std.specs.List.{find}
use Rattle.std.specs.Option.{option_map}
use Rattle.pam_conf.specs.Resolution.{resolved}
use Rattle.pam_conf.specs.Stack.{Items}
use Rattle.pam_conf.specs.declared.conf_error.ConfError.{ConfError}
use Rattle.pam_conf.specs.declared.error.FaultKind.TheVariants.{NoService}
use Rattle.pam_conf.specs.declared.rule.Kind.{Kind}
use Rattle.pam_conf.specs.declared.rule.Kind.TheVariants.{Auth, Account, Password, Session}
use Rattle.pam_changes.specs.Known.{AreThereAlike}
use Rattle.pam_changes.specs.Pairs.{IsPair}
use Rattle.pam_compare.specs.Same.{AreSame}
use Rattle.pam_changes.specs.Services.{compared_names, compared_services, service_text}
use Rattle.pam_changes.specs.Sides.{SidesText}
use Rattle.pam_changes.specs.declared.changes.HostChanges.{HostChanges}
use Rattle.pam_changes.specs.declared.pair.StackPair.{StackPair}
use Rattle.pam_changes.specs.declared.stacks.ComparedStack.{ComparedStack}
use Rattle.pam_changes.specs.declared.stacks.StackChange.{StackChange}
use Rattle.pam_changes.specs.declared.stacks.StackChange.TheVariants as changes

-- neither the service nor `other` has rules
abbrev pub no_service : ConfError
no_service = record { kind = NoService; at = None; line = 0 }

-- the fault of a service, none if it is accepted
abbrev pub fault_in : Result Items ConfError → Option ConfError
fault_in (Ok items) = None
fault_in (Err fault) = Some fault

-- two stacks are the same: they have the same items, and each module is there in both configurations, or in neither
abbrev pub AreEqual : SidesText → Items → Items → Type 0
AreEqual sides old new = AreSame old new × AreThereAlike sides old

-- a pair of stacks has the items of these two
pub record HasItems (kind : Kind) (old new : Items) (pair : StackPair) : Type 0 where
  pub kind_is : pair.kind ≡ kind
  pub old_same : AreSame pair.old old
  pub new_same : AreSame pair.new new

-- both configurations accept a service
pub record AreAccepted (one other : Result Items ConfError) (Holds : Items → Items → Type 0) : Type 0 where
  pub old : Items
  pub new : Items
  pub old_is : one ≡ Ok old
  pub new_is : other ≡ Ok new
  pub holds : Holds old new

-- two stacks that are not the same have the items of this pair
abbrev pub IsOfPair : SidesText → Kind → Option StackPair → Items → Items → Type 0
IsOfPair sides kind None old new = ⊥
IsOfPair sides kind (Some pair) old new = (AreEqual sides old new → ⊥) × HasItems kind old new pair

-- WHAT CHANGES in a stack, by what each configuration makes of the service
abbrev pub IsChange : SidesText → List StackPair → Kind → Result Items ConfError → Result Items ConfError → StackChange → Type 0
IsChange sides pairs kind old new changes.NoStack = (old ≡ Err no_service) × (new ≡ Err no_service)
IsChange sides pairs kind old new (changes.Refused one other) =
    (one ≡ fault_in old) × (other ≡ fault_in new) × (one ≡ None → other ≡ None → ⊥) × (one ≡ Some no_service → other ≡ Some no_service → ⊥)
IsChange sides pairs kind old new changes.Same = AreAccepted old new (AreEqual sides)
IsChange sides pairs kind old new (changes.Differs position) = AreAccepted old new (IsOfPair sides kind (slice_get pairs position))

-- the kinds that are compared
abbrev pub kinds_asked : Option Kind → List Kind
kinds_asked None = Auth ∷ Account ∷ Password ∷ Session ∷ []
kinds_asked (Some kind) = kind ∷ []

-- each service from a position on, with each kind; the second argument is the number of services
unfoldable pub stacks_asked : ℕ → ℕ → Option Kind → List (ℕ × Kind)
stacks_asked first zero kind = []
stacks_asked first (suc services) kind = map (λ k. (first, k)) (kinds_asked kind) ++ stacks_asked (first + 1) services kind

-- what is said of a service and a kind
abbrev pub IsStack : SidesText → List (List ℕ) → List StackPair → ComparedStack → Type 0
IsStack sides names pairs stack =
    let name = unwrap_or (slice_get names stack.service) [] in
    IsChange sides pairs stack.kind (resolved sides.old.folder name stack.kind) (resolved sides.new.folder name stack.kind) stack.change

-- whether a change is what the pair at this position says
abbrev pub is_of_pair : ℕ → StackChange → Bool
is_of_pair position (changes.Differs other) = other == position
is_of_pair position change = false

-- the service of the first stack that has the pair at this position
abbrev pub first_service : ℕ → List ComparedStack → Option ℕ
first_service position stacks = option_map (λ s. s.service) (find (λ s. is_of_pair position s.change) stacks)

-- EACH PAIR IS TOLD AT THE FIRST STACK THAT HAS IT: its service is the service of that stack
unfoldable pub AreToldFirst : List ComparedStack → List StackPair → Type 0
AreToldFirst stacks pairs =
    (position : ℕ) (pair : StackPair) → slice_get pairs position ≡ Some pair → first_service position stacks ≡ Some pair.service

-- THE CHANGES: what is said of each service and kind, in order, and of each pair of stacks
pub record AreChanges (sides : SidesText) (named : List (List ℕ)) (kind : Option Kind) (changes : HostChanges) : Type 0 where
  pub services : map service_text changes.services.items ≡ compared_services sides named
  pub order : map (λ s. (s.service, s.kind)) changes.stacks.items ≡ stacks_asked 0 (length (compared_names sides named)) kind
  pub stacks : All (IsStack sides (compared_names sides named) changes.pairs.items) changes.stacks.items
  pub pairs : All (IsPair sides) changes.pairs.items
  pub told : AreToldFirst changes.stacks.items changes.pairs.items
