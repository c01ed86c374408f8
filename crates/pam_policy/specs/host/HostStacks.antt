-- The stacks of a host: pam.conf(5), DESCRIPTION.
use Rattle.std.specs.Prelude.{◌≡◌, ℕ, zero, suc, ◌+◌, ◌++◌, All, List, [], ◌∷◌, length, map, slice_get, unwrap_or}
use Rattle.std.specs.Prelude.{Option, Some, None, Result, Ok, Err}
use Rattle.pam_compare.specs.Same.{AreSame}
use Rattle.pam_conf.specs.Resolution.{resolved}
use Rattle.pam_conf.specs.Services.{services_in}
use Rattle.pam_conf.specs.Stack.{Items, module_count}
use Rattle.pam_conf.specs.declared.conf_error.ConfError.{ConfError}
use Rattle.pam_conf.specs.declared.rule.Kind.{Kind}
use Rattle.pam_conf.specs.declared.rule.Kind.TheVariants.{Auth, Account, Password, Session}
use Rattle.pam_dispatch.specs.Flat.{runs_of}
use Rattle.pam_dispatch.specs.Tree.{runs_of_stack}
use Rattle.pam_dispatch.specs.declared.flat_item.FlatItem.{FlatItem}
use Rattle.pam_facts.specs.known.Answers.{IsFault}
use Rattle.pam_facts.specs.known.Knowledge.{Agree, allows_codes}
use Rattle.pam_facts.specs.known.Reads.{IsOfRead, tables_read}
use Rattle.pam_facts.specs.declared.known.error.KnownError.{KnownError}
use Rattle.pam_graph.specs.Reached.{HasMorePlaces}
use Rattle.pam_graph.specs.declared.graph.TheConstants.{MAX_NODES}
use Rattle.pam_paths.specs.Known.{may_answer}
use Rattle.pam_paths.specs.Listing.{Allowance}
use Rattle.pam_policy.specs.declared.host.error.StacksError.{StacksError}
use Rattle.pam_policy.specs.declared.host.error.StacksError.TheVariants as errors
use Rattle.pam_policy.specs.declared.host.stacks.ClassStack.{ClassStack}
use Rattle.pam_policy.specs.declared.host.stacks.ClassStack.TheVariants as classes
use Rattle.pam_policy.specs.declared.host.stacks.HostPlace.{HostPlace}
use Rattle.pam_policy.specs.declared.host.stacks.HostStacks.{HostStacks}
use Rattle.pam_policy.specs.declared.host.stacks.KnownStack.{KnownStack}
use Rattle.pam_policy.specs.declared.host.stacks.StackClass.{StackClass}
use Rattle.pam_policy.specs.host.Answers.{answers_of}
use Rattle.pam_policy.specs.host.Sources.{SourcesText}
use Rattle.pam_policy.specs.search.Witness.{IsGraphOf}

-- a service, by its position, with each kind in order
abbrev pub service_places : ℕ → List (ℕ × Kind)
service_places service = (service, Auth) ∷ (service, Account) ∷ (service, Password) ∷ (service, Session) ∷ []

-- THE PLACES: each service from a position on, with each kind; the second argument is the number of services
unfoldable pub places_from : ℕ → ℕ → List (ℕ × Kind)
places_from first zero = []
places_from first (suc services) = service_places first ++ places_from (first + 1) services

abbrev pub place_of : HostPlace → ℕ × Kind
place_of place = (place.service, place.kind)

-- THE RUNS OF A STACK ARE TOO MANY: with these answers a stack with its items comes to more places than a graph may have
pub record IsTooLarge (items : Items) (answers : ℕ → List ℕ) : Type 0 where
  pub stack : Items
  pub program : List FlatItem
  pub allows : Allowance
  pub same : AreSame stack items
  pub runs : runs_of program ≡ runs_of_stack stack
  pub agree : Agree (module_count items) allows (allows_codes answers)
  pub more : HasMorePlaces MAX_NODES allows program

-- A STACK IS KNOWN: one with its items is kept, what is known of its modules allows exactly these answers, and its graph has its runs
pub record IsKnown (items : Items) (answers : ℕ → List ℕ) (known : KnownStack) : Type 0 where
  pub same : AreSame known.stack items
  pub agree : Agree (module_count items) (may_answer known.known) (allows_codes answers)
  pub graph : IsGraphOf (may_answer known.known) known.stack known.graph

-- what is known of a stack with these answers
abbrev pub IsOfAnswers : Items → (ℕ → List ℕ) → ClassStack → Type 0
IsOfAnswers items answers (classes.Refused fault) = ⊥
IsOfAnswers items answers classes.TooLarge = IsTooLarge items answers
IsOfAnswers items answers (classes.Known known) = IsKnown items answers known

-- the same of an accepted stack, whose tables have no fault
pub record IsAccepted (sources : SourcesText) (name : List ℕ) (kind : Kind) (items : Items) (stack : ClassStack) : Type 0 where
  pub answers : ℕ → List ℕ
  pub are_answers : answers_of sources name kind items ≡ Ok answers
  pub is_of : IsOfAnswers items answers stack

-- WHAT IS KNOWN of the stack of a service for a kind: the fault for which it is refused, or its runs with its answers, if these are not
-- too many
abbrev pub IsStackOf : SourcesText → List ℕ → Kind → Result Items ConfError → ClassStack → Type 0
IsStackOf sources name kind (Err fault) (classes.Refused other) = other ≡ fault
IsStackOf sources name kind (Err fault) stack = ⊥
IsStackOf sources name kind (Ok items) stack = IsAccepted sources name kind items stack

-- a class is that of the stack of a service for a kind
pub record IsClassOf (sources : SourcesText) (name : List ℕ) (kind : Kind) (class : StackClass) : Type 0 where
  pub kind_is : class.kind ≡ kind
  pub stack : IsStackOf sources name kind (resolved sources.folder name kind) class.stack

-- the same of a class that may not be there
abbrev pub IsClassAt : SourcesText → List ℕ → Kind → Option StackClass → Type 0
IsClassAt sources name kind (Some class) = IsClassOf sources name kind class
IsClassAt sources name kind None = ⊥

-- THE CLASS OF A PLACE is that of its stack
abbrev pub HasClass : SourcesText → List (List ℕ) → List StackClass → HostPlace → Type 0
HasClass sources services list place =
    IsClassAt sources (unwrap_or (slice_get services place.service) []) place.kind (slice_get list place.class)

-- the graph of a class is that of its stack
abbrev pub IsGraphIn : ClassStack → Type 0
IsGraphIn (classes.Known known) = IsGraphOf (may_answer known.known) known.stack known.graph
IsGraphIn stack = Unit {0}

abbrev pub HasGraph : StackClass → Type 0
HasGraph class = IsGraphIn class.stack

-- THE STACKS OF A HOST: its services, each of these with each kind in order, and the class of each stack
pub record AreHostStacks (sources : SourcesText) (stacks : HostStacks) : Type 0 where
  pub services : stacks.services ≡ services_in sources.folder.form sources.folder.entries
  pub places : map place_of stacks.places.items ≡ places_from 0 (length stacks.services)
  pub have_classes : All (HasClass sources stacks.services stacks.classes.items) stacks.places.items
  pub graphs : All HasGraph stacks.classes.items

-- THE FAULT OF A TABLE at the accepted stack of a service for a kind: the first there, and that of a table that is read
pub record IsFaultAt (sources : SourcesText) (name : List ℕ) (kind : Kind) (fault : KnownError) : Type 0 where
  pub items : Items
  pub accepted : resolved sources.folder name kind ≡ Ok items
  pub first : IsFault fault (answers_of sources name kind items ≡ Err fault)
  pub read : IsOfRead (tables_read kind sources.tables items) fault

abbrev pub IsErrorAt : SourcesText → List ℕ → Kind → StacksError → Type 0
IsErrorAt sources name kind (errors.Known fault) = IsFaultAt sources name kind fault
IsErrorAt sources name kind errors.Memory = Unit {0}

-- the same at the stack of some of these services, for some kind
pub record IsErrorAmong (sources : SourcesText) (services : List (List ℕ)) (error : StacksError) : Type 0 where
  pub service : ℕ
  pub name : List ℕ
  pub kind : Kind
  pub there : slice_get services service ≡ Some name
  pub is_error : IsErrorAt sources name kind error

-- WHY THERE ARE NO STACKS: a fault of a table, at the stack of some service for some kind; or want of memory
abbrev pub WhyNoStacks : SourcesText → List (List ℕ) → StacksError → Type 0
WhyNoStacks sources services (errors.Known fault) = IsErrorAmong sources services (errors.Known fault)
WhyNoStacks sources services errors.Memory = Unit {0}
