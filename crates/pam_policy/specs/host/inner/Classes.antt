-- For private contracts and proofs alone: the classes of stacks, found one after another.
use Rattle.std.specs.Prelude.{◌≡◌, ℕ, All, List, map, slice_get, Option, Some, None}
use Rattle.pam_compare.specs.Same.{AreSame}
use Rattle.pam_conf.specs.Stack.{module_count}
use Rattle.pam_conf.specs.declared.conf_error.ConfError.{ConfError}
use Rattle.pam_conf.specs.declared.rule.Kind.{Kind}
use Rattle.pam_dispatch.specs.Flat.{runs_of}
use Rattle.pam_dispatch.specs.Tree.{runs_of_stack}
use Rattle.pam_dispatch.specs.declared.flat_item.FlatItem.{FlatItem}
use Rattle.pam_facts.specs.known.Knowledge.{Agree}
use Rattle.pam_graph.specs.Reached.{HasMorePlaces}
use Rattle.pam_graph.specs.declared.graph.TheConstants.{MAX_NODES}
use Rattle.pam_paths.specs.Known.{may_answer}
use Rattle.pam_policy.specs.declared.host.classes.Answered.{Answered}
use Rattle.pam_policy.specs.declared.host.classes.Classes.{Classes}
use Rattle.pam_policy.specs.declared.host.finding_stacks.Found.{Found}
use Rattle.pam_policy.specs.declared.host.stacks.ClassStack.{ClassStack}
use Rattle.pam_policy.specs.declared.host.stacks.ClassStack.TheVariants as classes
use Rattle.pam_policy.specs.declared.host.stacks.KnownStack.{KnownStack}
use Rattle.pam_policy.specs.declared.host.stacks.StackClass.{StackClass}
use Rattle.pam_policy.specs.host.HostStacks.{HasClass, HasGraph, place_of}
use Rattle.pam_policy.specs.host.Sources.{SourcesText}
use Rattle.pam_policy.specs.search.Witness.{IsGraphOf}

-- the runs of a stack with its answers are too many
pub record IsLarge (answered : Answered) : Type 0 where
  pub program : List FlatItem
  pub runs : runs_of program ≡ runs_of_stack answered.stack
  pub more : HasMorePlaces MAX_NODES (may_answer answered.known) program

-- those of a stack with the same items and the same answers are
pub record IsLikeLarge (answered : Answered) : Type 0 where
  pub other : Answered
  pub same : AreSame other.stack answered.stack
  pub agree : Agree (module_count answered.stack) (may_answer other.known) (may_answer answered.known)
  pub large : IsLarge other

-- a stack with the same items and the same answers is kept, with its graph
pub record IsKept (answered : Answered) (known : KnownStack) : Type 0 where
  pub same : AreSame known.stack answered.stack
  pub agree : Agree (module_count answered.stack) (may_answer known.known) (may_answer answered.known)
  pub graph : IsGraphOf (may_answer known.known) known.stack known.graph

abbrev pub HoldsIn : Answered → ClassStack → Type 0
HoldsIn answered (classes.Refused fault) = ⊥
HoldsIn answered classes.TooLarge = IsLikeLarge answered
HoldsIn answered (classes.Known known) = IsKept answered known

-- a class is that of a stack with its answers
pub record Holds (answered : Answered) (class : StackClass) : Type 0 where
  pub kind_is : class.kind ≡ answered.kind
  pub stack : HoldsIn answered class.stack

abbrev pub HoldsAt : Answered → Option StackClass → Type 0
HoldsAt answered None = ⊥
HoldsAt answered (Some class) = Holds answered class

-- a class is that of the stacks of a kind that are refused for a fault
pub record Refuses (kind : Kind) (fault : ConfError) (class : StackClass) : Type 0 where
  pub kind_is : class.kind ≡ kind
  pub stack : class.stack ≡ classes.Refused fault

abbrev pub RefusesAt : Kind → ConfError → Option StackClass → Type 0
RefusesAt kind fault None = ⊥
RefusesAt kind fault (Some class) = Refuses kind fault class

-- a class is that of the stacks of a kind that are too large
pub record IsLargeClass (kind : Kind) (class : StackClass) : Type 0 where
  pub kind_is : class.kind ≡ kind
  pub stack : class.stack ≡ classes.TooLarge

abbrev pub IsLargeClassAt : Kind → Option StackClass → Type 0
IsLargeClassAt kind None = ⊥
IsLargeClassAt kind (Some class) = IsLargeClass kind class

-- classes stay where they are
unfoldable pub Keeps : List StackClass → List StackClass → Type 0
Keeps before after = (k : ℕ) (class : StackClass) → slice_get before k ≡ Some class → slice_get after k ≡ Some class

-- WHAT HOLDS of the classes so far
pub record AreFound (found : Classes) : Type 0 where
  pub graphs : All HasGraph found.classes.items
  pub large : All (λ l. IsLarge l.answered) found.large.items

-- classes are added, and nothing else
pub record Adds (before after : Classes) : Type 0 where
  pub keeps : Keeps before.classes.items after.classes.items
  pub found : AreFound before → AreFound after

-- WHAT IS FOUND SO FAR, of these services and kinds
pub record IsGathered (sources : SourcesText) (names : List (List ℕ)) (asked : List (ℕ × Kind)) (found : Found) : Type 0 where
  pub order : map place_of found.places.items ≡ asked
  pub places : All (HasClass sources names found.classes.classes.items) found.places.items
  pub are_found : AreFound found.classes
