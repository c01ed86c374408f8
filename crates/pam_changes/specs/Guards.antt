-- Modules that one of two stacks alone has, and that guard a login there: pam_faillock(8), pam_nologin(8), pam_access(8), pam_time(8),
-- pam_wheel(8).
use Rattle.std.specs.Prelude.{◌≡◌, ℕ, ◌&&◌, ◌||◌, Bool, true, false, List, codes, filter_map, if◌then◌else◌, Option, Some, None}
use Rattle.std.specs.List.{list_any}
use Rattle.std.specs.Option.{option_map, option_map_or}
use Rattle.std.specs.Str.{bytes_eq}
use Rattle.pam_conf.specs.Stack.{Items, ModuleText, module_at}
use Rattle.pam_conf.specs.declared.rule.Kind.{Kind}
use Rattle.pam_conf.specs.declared.rule.Kind.TheVariants.{Auth, Password}
use Rattle.pam_facts.specs.Answers.{is_there}
use Rattle.pam_facts.specs.Facts.{has_function}
use Rattle.pam_facts.specs.Fitting.{fact_of}
use Rattle.pam_facts.specs.Paths.{module_name}
use Rattle.pam_facts.specs.Rows.{Row}
use Rattle.pam_facts.specs.declared.row.Class.{Class}
use Rattle.pam_facts.specs.declared.row.Class.TheVariants as classes
use Rattle.pam_changes.specs.Sides.{SideText, SidesText}
use Rattle.pam_changes.specs.declared.guards.Guard.{Guard}
use Rattle.pam_changes.specs.declared.guards.Guard.TheVariants.{Checks, Counts, Refuses}
use Rattle.pam_changes.specs.declared.guards.GuardChanges.{GuardChanges}
use Rattle.pam_changes.specs.declared.guards.GuardingModule.{GuardingModule}
use Rattle.pam_changes.specs.declared.modules.ModuleChanges.{ModuleChanges}

abbrev pub has_name : List ℕ → ModuleText → Bool
has_name wanted m = option_map_or (λ name. bytes_eq name wanted) (module_name m.path) false

abbrev pub has_argument : List ℕ → ModuleText → Bool
has_argument wanted m = list_any (λ argument. bytes_eq argument wanted) m.arguments

-- in `auth`, pam_faillock with `authfail` counts failed logins
abbrev pub counts_failures : Kind → ModuleText → Bool
counts_failures Auth m = has_name (codes "pam_faillock") m && has_argument (codes "authfail") m
counts_failures kind m = false

-- in `auth`, the success of a module of these classes says who logs in
abbrev pub says_who_logs_in : Kind → Class → Bool
says_who_logs_in Auth classes.Checks = true
says_who_logs_in Auth classes.Ignores = true
says_who_logs_in kind class = false

abbrev pub is_gate_name : List ℕ → Bool
is_gate_name name =
    bytes_eq name (codes "pam_nologin")
    || (bytes_eq name (codes "pam_access") || (bytes_eq name (codes "pam_time") || bytes_eq name (codes "pam_wheel")))

-- these modules may refuse a login; in `password` they refuse another password, and no login
abbrev pub is_gate : Kind → ModuleText → Bool
is_gate Password m = false
is_gate kind m = option_map_or is_gate_name (module_name m.path) false

abbrev pub said_of : Kind → Class → ModuleText → Option Guard
said_of kind class m =
    if counts_failures kind m then Some Counts
    else if says_who_logs_in kind class then Some Checks
    else if is_gate kind m then Some Refuses
    else None

-- HOW A MODULE GUARDS A LOGIN in stacks of a kind, if it does. One that has no function there guards none
abbrev pub guard_of : List Row → Kind → ModuleText → Option Guard
guard_of facts kind m =
    let fact = fact_of facts m.path m.arguments in
    if has_function kind fact then said_of kind fact.class m else None

-- nor does one that is not there
abbrev pub guard_there : List Row → SideText → Kind → ModuleText → Option Guard
guard_there facts side kind m = if is_there side.there m.path then guard_of facts kind m else None

abbrev pub numbered : ℕ → Guard → GuardingModule
numbered number guard = record { number = number; guard = guard }

-- a module by its number, if it guards a login
abbrev pub guarding : List Row → SideText → Kind → Items → ℕ → Option GuardingModule
guarding facts side kind items number =
    option_map_or (λ m. option_map (numbered number) (guard_there facts side kind m)) (module_at number items) None

-- THE MODULES THAT ONE OF TWO STACKS ALONE HAS, AND THAT GUARD A LOGIN: of those that were removed or added each that does, in order
pub record AreGuards (sides : SidesText) (kind : Kind) (old new : Items) (modules : ModuleChanges) (guards : GuardChanges) : Type 0 where
  pub removed : guards.removed.items ≡ filter_map (guarding sides.facts sides.old kind old) modules.removed.items
  pub added : guards.added.items ≡ filter_map (guarding sides.facts sides.new kind new) modules.added.items
