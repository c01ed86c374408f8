-- For private contracts and proofs alone: the progress of a walk, by its effect on any continuation: pam.conf(5), on include and
-- substack.
use Rattle.std.specs.Prelude.{◌≡◌, ℕ, Bool, true, false, ◌+◌, ◌-◌, ◌==◌, List, [], ◌∷◌, ◌++◌, is_some, length, map, filter, slice_index_or}
use Rattle.std.specs.Prelude.{Option, Some, None, Result, Ok, Err, MatchResult, Vec, if◌then◌else◌}
use Rattle.std.specs.Borrow.{Bor}
use Rattle.std.specs.Global.{Global}
use Rattle.std.specs.Option.{option_map, option_map_or}
use Rattle.pam_conf.specs.inner.FileRules.{files_read}
use Rattle.pam_conf.specs.Files.{Folder}
use Rattle.pam_conf.specs.ItemsOf.{items_of}
use Rattle.pam_conf.specs.inner.FilesRead.{file_view}
use Rattle.pam_conf.specs.inner.Kept.{kept_view}
use Rattle.pam_conf.specs.Rule.{RuleText}
use Rattle.pam_conf.specs.Survey.{good_at, one_too_many, with_file}
use Rattle.pam_conf.specs.Tells.{UnlessMemory}
use Rattle.pam_conf.specs.Stack.{Items, joined, module_count}
use Rattle.pam_conf.specs.Walk.{Walk, Event, Met, Followed, Failed, Deeper, Reads, deeper, numbered, is_of_kind, read_walk, rules_at, rules_walk, fault_at}
use Rattle.pam_conf.specs.Walk.{walk}
use Rattle.pam_conf.specs.declared.conf_error.ConfError.{ConfError}
use Rattle.pam_conf.specs.declared.error.FaultKind.TheVariants.{TooManyFollowed, TooManyModules}
use Rattle.pam_conf.specs.declared.error.RuleFault.{RuleFault}
use Rattle.pam_conf.specs.declared.rule.Kind.{Kind}
use Rattle.pam_conf.specs.declared.kept.KeptRule.{KeptRule}
use Rattle.pam_conf.specs.declared.rule_files.FileRules.{FileRules}
use Rattle.pam_conf.specs.declared.stack.Item.{Item}
use Rattle.pam_conf.specs.declared.stack.TheConstants.{MAX_MODULES}
use Rattle.pam_conf.specs.declared.trail.TheConstants.{MAX_OPEN_FILES}
use Rattle.pam_conf.specs.declared.walk.TheConstants.{MAX_FOLLOWS}
use Rattle.pam_conf.specs.declared.progress.Progress.{Progress}
use Rattle.pam_conf.specs.declared.walk.Walker.{Walker}

-- what a walk has counted and noted so far
pub record Count : Type 0 where
  pub modules : ℕ
  pub follows : ℕ
  pub noted : List ConfError
  pub reached : List ℕ

abbrev pub count_of : Progress → Count
count_of p = record { modules = p.modules; follows = p.follows; noted = p.noted.items; reached = p.reached.items }

-- what a walk comes to: its faults and files, and whether a fault ended it
pub record Account : Type 0 where
  pub faults : List ConfError
  pub reached : List ℕ
  pub ended : Bool

abbrev pub ended_by : Count → ConfError → Account
ended_by n fault = record { faults = n.noted ++ fault ∷ []; reached = n.reached; ended = true }

abbrev pub with_module : Count → Count
with_module n = record n { modules = n.modules + 1 }

-- only a walk that goes on after faults notes them, and the files that it reaches
abbrev pub with_follow : Bool → ℕ → Count → Count
with_follow on target n = record n { follows = n.follows + 1; reached = if on then with_file n.reached target else n.reached }

-- the fault of a target, which counts as a follow
abbrev pub with_fault : ConfError → Count → Count
with_fault fault n = record n { follows = n.follows + 1; noted = n.noted ++ fault ∷ [] }

-- what ends a walk at such a fault: the fault itself, or for a walk that goes on after faults one follow too many
unfoldable pub ending : Bool → Count → ConfError → Option ConfError
ending false n fault = Some fault
ending true n fault = if n.follows == MAX_FOLLOWS then Some (one_too_many fault) else None

-- what the events come to, for a walk that goes on after faults, or does not
unfoldable pub account : Bool → Count → List Event → Account
account on n [] = record { faults = n.noted; reached = n.reached; ended = false }
account on n (Met file line ∷ events) =
    if n.modules == MAX_MODULES then ended_by n (fault_at file line TooManyModules) else account on (with_module n) events
account on n (Followed file line target ∷ events) =
    if n.follows == MAX_FOLLOWS then ended_by n (fault_at file line TooManyFollowed) else account on (with_follow on target n) events
account on n (Failed fault ∷ events) = option_map_or (ended_by n) (ending on n fault) (account on (with_fault fault n) events)

-- the walk leads from this count and these items to the new ones
pub record Passes (on : Bool) (n : Count) (items : Items) (w : Walk) (new : Count) (new_items : Items) : Type 0 where
  pub accounted : (rest : List Event) → account on n (w.events ++ rest) ≡ account on new rest
  pub counted : new.modules ≡ n.modules + module_count w.items
  pub added : new_items ≡ joined items (numbered (n.modules + 1) w.items)

-- the walk is ended by a fault, whatever follows it
abbrev pub Refuses : Bool → Count → Walk → Count → ConfError → Type 0
Refuses on n w new error = UnlessMemory error error.kind ((rest : List Event) → account on n (w.events ++ rest) ≡ ended_by new error)

-- what a walk comes to: it leads on, or it is ended
abbrev pub Walks : Bool → Count → Items → Walk → Count → Items → Result (Unit {0}) ConfError → Type 0
Walks on n items w new new_items result = MatchResult result (λ _. Passes on n items w new new_items) (λ error. Refuses on n w new error)

-- the rules that pass a test
abbrev pub only : (RuleText → Bool) → Result (List RuleText) RuleFault → Result (List RuleText) RuleFault
only test (Ok rules) = Ok (filter test rules)
only test (Err fault) = Err fault

-- the rules of one kind
abbrev pub of_kind : Kind → Result (List RuleText) RuleFault → Result (List RuleText) RuleFault
of_kind kind rules = only (is_of_kind kind) rules

-- the result of reading the file at a position
abbrev pub in_file : {X : Type 0} → ℕ → Result X RuleFault → Result X ConfError
in_file file (Ok x) = Ok x
in_file file (Err fault) = Err (fault_at file fault.line fault.kind)

-- the rules stored for a file, if any, are its rules of the kind
abbrev pub IsKept : Folder → Kind → ℕ → Option (Vec KeptRule Global) → Type 0
IsKept folder kind file None = Unit {0}
IsKept folder kind file (Some rules) = of_kind kind (rules_at folder file) ≡ Ok (map kept_view rules.items)

-- the walk of these rules, if any, is that of the whole file
abbrev pub IsRead : Folder → Reads → Kind → Option (List ℕ) → ℕ → Option (List KeptRule) → Type 0
IsRead folder reads kind service file None = Unit {0}
IsRead folder reads kind service file (Some rules) = (deeper : Deeper) (trail : List ℕ) →
    read_walk folder reads kind service deeper trail file (reads file) ≡ rules_walk folder reads kind service deeper trail file (map kept_view rules)

-- a table with the rules stored for each file
pub record IsTable (folder : Folder) (kind : Kind) (table : List (Option (Vec KeptRule Global))) : Type 0 where
  pub full : length table ≡ length folder.entries
  pub kept : (file : ℕ) → IsKept folder kind file (slice_index_or table file None)

-- FILES THAT WERE READ BEFORE, or are read when the walk reaches them

abbrev pub Before : Type 0
Before = Option (Bor (List FileRules))

-- what a walk reads: the good rules of files that were read before, or else all rules of a file or its first fault
abbrev pub reads_by : Folder → Before → Reads
reads_by folder None = rules_at folder
reads_by folder (Some before) = good_at folder

-- a walk stores rules in a table, or has those that were read before
abbrev pub HasRules : Folder → Kind → Before → List (Option (Vec KeptRule Global)) → Type 0
HasRules folder kind None table = IsTable folder kind table
HasRules folder kind (Some before) table = map file_view before.now ≡ files_read folder

-- WHAT A WALKER DOES

-- the files that the rules of one at the end of a trail lead to
abbrev pub deeper_in : Walker → List ℕ → Deeper
deeper_in walker trail =
    deeper walker.files.now (reads_by walker.files.now walker.read) walker.kind (option_map (λ s. s.now) walker.service) (MAX_OPEN_FILES - length trail)

-- the walk of a file, the last of a trail
abbrev pub file_walk : Walker → List ℕ → ℕ → Walk
file_walk walker trail file =
    walk walker.files.now (reads_by walker.files.now walker.read) walker.kind (option_map (λ s. s.now) walker.service) (MAX_OPEN_FILES - length trail) trail
    file

-- what a walk comes to, in the words of who walks
abbrev pub GoesOn : Walker → Progress → List Item → Walk → Progress → List Item → Result (Unit {0}) ConfError → Type 0
GoesOn walker old items w new new_items result = Walks (is_some walker.read) (count_of old) (items_of items) w (count_of new) (items_of new_items) result
