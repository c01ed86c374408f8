-- The walk over the files that a service's rules name: pam.conf(5), on include, substack and @include.
use Rattle.std.specs.Prelude.{ℕ, ◌+◌, ◌==◌, ◌&&◌, zero, suc, Bool, true, false, List, [], ◌∷◌, ◌++◌, if◌then◌else◌, Option, Some, None, unwrap_or, Result, Ok}
use Rattle.std.specs.Prelude.{Err}
use Rattle.std.specs.List.{list_any}
use Rattle.std.specs.Option.{option_map_or}
use Rattle.std.specs.Str.{bytes_eq}
use Rattle.pam_conf.specs.Files.{Folder, position_of, bytes_at}
use Rattle.pam_conf.specs.Lines.{rules_of}
use Rattle.pam_conf.specs.Rule.{RuleText, RuleBody, Module, Include, Sub}
use Rattle.pam_conf.specs.Stack.{Items, End, ThenModule, ThenSub, joined, module_count}
use Rattle.pam_conf.specs.declared.conf_error.ConfError.{ConfError}
use Rattle.pam_conf.specs.declared.error.FaultKind.{FaultKind}
use Rattle.pam_conf.specs.declared.error.FaultKind.TheVariants.{Cycle, NoService, TooDeep, TooManyFollowed, TooManyModules}
use Rattle.pam_conf.specs.declared.error.RuleFault.{RuleFault}
use Rattle.pam_conf.specs.declared.rule.Kind.{Kind}
use Rattle.pam_conf.specs.declared.rule.Kind.TheVariants.{Auth, Account, Password, Session}
use Rattle.pam_conf.specs.declared.stack.TheConstants.{MAX_MODULES}
use Rattle.pam_conf.specs.declared.walk.TheConstants.{MAX_FOLLOWS}

-- a fault at a line of the file at a position
abbrev pub fault_at : ℕ → ℕ → FaultKind → ConfError
fault_at file line kind = record { kind = kind; at = Some file; line = line }

-- what a walk meets: a module, an include or substack that is followed to its target, each with its file and line, or a fault
pub data Event : Type 0 where
  Met : (file line : ℕ) → Event
  Followed : (file line target : ℕ) → Event
  Failed : ConfError → Event

-- the result of a walk: its events in order, and its items, whose modules are not numbered yet
pub record Walk : Type 0 where
  pub events : List Event
  pub items : Items

abbrev pub nothing : Walk
nothing = record { events = []; items = End }

abbrev pub failed : ConfError → Walk
failed fault = record { events = Failed fault ∷ []; items = End }

-- one walk followed by another
infixr 20 ◌then◌
abbrev pub ◌then◌ : Walk → Walk → Walk
first then second = record { events = first.events ++ second.events; items = joined first.items second.items }

abbrev pub same_kind : Kind → Kind → Bool
same_kind Auth Auth = true
same_kind Account Account = true
same_kind Password Password = true
same_kind Session Session = true
same_kind _ _ = false

-- a rule applies to the kind; an `@include`, which has none, applies to every kind
abbrev pub is_of_kind : Kind → RuleText → Bool
is_of_kind kind rule = option_map_or (same_kind kind) rule.kind true

-- a rule of pam.conf names a service
abbrev pub carries : List ℕ → RuleText → Bool
carries service rule = option_map_or (bytes_eq service) rule.service false

-- a rule counts if it applies to the kind, and in pam.conf names the service
abbrev pub counts : Kind → Option (List ℕ) → RuleText → Bool
counts kind service rule = is_of_kind kind rule && option_map_or (λ name. carries name rule) service true

-- the walk of a target, by its trail and position, if one more file may be opened
abbrev pub Deeper : Type 0
Deeper = Option (List ℕ → ℕ → Walk)

-- the target at a position, with its walk; or no such file, a file that is open already, or one file too many
abbrev pub target_walk : Deeper → List ℕ → Option ℕ → Result (ℕ × Walk) FaultKind
target_walk deeper trail None = Err NoService
target_walk deeper trail (Some target) =
    if list_any (λ p. p == target) trail then Err Cycle
    else option_map_or (λ walk. Ok (target, walk (trail ++ target ∷ []) target)) deeper (Err TooDeep)

-- the event of an include, and then the walk of its target
abbrev pub followed : ℕ → ℕ → ℕ × Walk → Walk
followed file line target = record { events = Followed file line target.0 ∷ target.1.events; items = target.1.items }

-- an include is replaced by the items of its target
abbrev pub include_walk : ℕ → ℕ → Result (ℕ × Walk) FaultKind → Walk
include_walk file line (Err kind) = failed (fault_at file line kind)
include_walk file line (Ok target) = followed file line target

-- a substack is one item, even if it is empty
abbrev pub sub_walk : ℕ → ℕ → Result (ℕ × Walk) FaultKind → Walk
sub_walk file line (Err kind) = failed (fault_at file line kind)
sub_walk file line (Ok target) = record {
  events = Followed file line target.0 ∷ target.1.events;
  items = ThenSub record { file = file; line = line; target = target.0 } target.1.items End;
}

-- the rules of the file at a position
abbrev pub rules_at : Folder → ℕ → Result (List RuleText) RuleFault
rules_at folder file = rules_of folder.form (unwrap_or (bytes_at file folder.entries) [])

-- what a walk reads of the file at each position
abbrev pub Reads : Type 0
Reads = ℕ → Result (List RuleText) RuleFault

-- in a folder, or in pam.conf for a service; `trail`: the files that are open, `file` the last of them
module _ (folder : Folder) (reads : Reads) (kind : Kind) (service : Option (List ℕ)) where
  abbrev pub body_walk : Deeper → List ℕ → ℕ → RuleText → RuleBody → Walk
  body_walk deeper trail file rule (Module control path arguments) = record {
    events = Met file rule.line ∷ [];
    items = ThenModule record { number = 0; dashed = rule.dashed; control = control; path = path; arguments = arguments; file = file; line = rule.line } End;
  }
  body_walk deeper trail file rule (Include target) = include_walk file rule.line (target_walk deeper trail (position_of target folder.entries))
  body_walk deeper trail file rule (Sub target) = sub_walk file rule.line (target_walk deeper trail (position_of target folder.entries))

  abbrev pub rule_walk : Deeper → List ℕ → ℕ → RuleText → Walk
  rule_walk deeper trail file rule = if counts kind service rule then body_walk deeper trail file rule rule.body else nothing

  abbrev pub rules_walk : Deeper → List ℕ → ℕ → List RuleText → Walk
  rules_walk deeper trail file [] = nothing
  rules_walk deeper trail file (rule ∷ rules) = rule_walk deeper trail file rule then rules_walk deeper trail file rules

  -- the walk of a file with a fault is that fault alone
  abbrev pub read_walk : Deeper → List ℕ → ℕ → Result (List RuleText) RuleFault → Walk
  read_walk deeper trail file (Err fault) = failed (fault_at file fault.line fault.kind)
  read_walk deeper trail file (Ok rules) = rules_walk deeper trail file rules

  abbrev pub file_walk : Deeper → List ℕ → ℕ → Walk
  file_walk deeper trail file = read_walk deeper trail file (reads file)

  -- THE WALK of an open file, where `room` more files may be opened
  unfoldable pub walk : ℕ → List ℕ → ℕ → Walk
  walk zero trail file = file_walk None trail file
  walk (suc room) trail file = file_walk (Some (walk room)) trail file

  -- the walk of targets, where `room` more files may be opened
  abbrev pub deeper : ℕ → Deeper
  deeper zero = None
  deeper (suc room) = Some (walk room)

-- the first error of a walk: a fault, one module too many, or one include or substack too many
unfoldable pub refusal : ℕ → ℕ → List Event → Option ConfError
refusal modules follows [] = None
refusal modules follows (Met file line ∷ events) =
    if modules == MAX_MODULES then Some (fault_at file line TooManyModules) else refusal (modules + 1) follows events
refusal modules follows (Followed file line target ∷ events) =
    if follows == MAX_FOLLOWS then Some (fault_at file line TooManyFollowed) else refusal modules (follows + 1) events
refusal modules follows (Failed fault ∷ events) = Some fault

-- items with their modules numbered from the left
abbrev pub numbered : ℕ → Items → Items
numbered first End = End
numbered first (ThenModule m rest) = ThenModule (record m { number = first }) (numbered (first + 1) rest)
numbered first (ThenSub s inner rest) = ThenSub s (numbered first inner) (numbered (first + module_count inner) rest)
