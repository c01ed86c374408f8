-- Which tables the modules of a host's stacks read: pam_access(8), pam_time(8).
use Rattle.std.specs.Prelude.{◌≡◌, ℕ, List, [], ◌∷◌, ◌++◌, Some, if◌then◌else◌}
use Rattle.pam_conf.specs.Files.{Folder}
use Rattle.pam_conf.specs.Stack.{Items, ModuleText, module_at}
use Rattle.pam_conf.specs.Survey.{surveyed}
use Rattle.pam_conf.specs.declared.rule.Kind.{Kind}
use Rattle.pam_facts.specs.known.Answers.{is_access_reader, is_time_reader}
use Rattle.pam_text.specs.Members.{Member}
use Rattle.pam_tables.specs.Options.{Options, options_of}

-- the group file, the access tables read with some options, or the time table
pub data Need : Type 0 where
  OfGroups : Need
  OfAccess : Options → Need
  OfTime : Need

-- what a module of a stack of some kind reads: pam_access the access tables and the group file, and pam_time the time table
abbrev pub access_needs : ModuleText → List Need
access_needs m = if is_access_reader m then OfGroups ∷ OfAccess (options_of m.arguments) ∷ [] else []

abbrev pub time_needs : Kind → ModuleText → List Need
time_needs kind m = if is_time_reader kind m then OfTime ∷ [] else []

abbrev pub needs_of : Kind → ModuleText → List Need
needs_of kind m = access_needs m ++ time_needs kind m

-- a module of some items reads it
pub record IsNeededIn (items : Items) (kind : Kind) (need : Need) : Type 0 where
  pub number : ℕ
  pub rule : ModuleText
  pub is_there : module_at number items ≡ Some rule
  pub reads : Member need (needs_of kind rule)

-- a module of the stack of a service for some kind reads it, as far as the rules without a fault give a stack
pub record IsNeededBy (folder : Folder) (service : List ℕ) (need : Need) : Type 0 where
  pub kind : Kind
  pub items : Items
  pub stack : (surveyed folder service kind).items ≡ Some items
  pub reads : IsNeededIn items kind need

-- A CHECKED STACK NEEDS IT: one of these services for some kind
pub record IsNeeded (folder : Folder) (services : List (List ℕ)) (need : Need) : Type 0 where
  pub service : List ℕ
  pub checked : Member service services
  pub by : IsNeededBy folder service need
