-- What a comparison tells of services, stacks and modules.
use Rattle.std.specs.Prelude.{ℕ, zero, suc, ◌+◌, ◌||◌, Bool, true, false, List, [], codes, count_by, if◌then◌else◌, is_some, slice_get, Option, Some}
use Rattle.std.specs.Option.{option_and_then, option_map_or}
use Rattle.std.specs.Str.{bytes_eq}
use Rattle.pam_changes.specs.declared.pair.ShownChanges.{ShownChanges}
use Rattle.pam_changes.specs.declared.services.ComparedService.{ComparedService}
use Rattle.pam_changes.specs.declared.stacks.ComparedStack.{ComparedStack}
use Rattle.pam_changes.specs.declared.stacks.StackChange.{StackChange}
use Rattle.pam_changes.specs.declared.stacks.StackChange.TheVariants as changes
use Rattle.pam_conf.specs.Files.{Folder}
use Rattle.pam_conf.specs.Stack.{Items, module_at}
use Rattle.pam_render.specs.declared.parts.compared.line.Configuration.{Configuration}
use Rattle.pam_render.specs.declared.parts.compared.line.Configuration.TheVariants.{Old, New}
use Rattle.pam_report.specs.Decide.{path_at}
use Rattle.pam_report.specs.Fault.{file_at}

-- how many of the modules up to a number have a path
abbrev pub with_path : Items → List ℕ → ℕ → ℕ
with_path items path zero = 0
with_path items path (suc number) = with_path items path number + (if bytes_eq (path_at (suc number) items) path then 1 else 0)

-- which of the modules with its path a module is, from 1
abbrev pub occurrence : Items → ℕ → ℕ
occurrence items number = with_path items (path_at number items) number

-- the name of a service by its position, empty if there is none
abbrev pub service_at : List ComparedService → ℕ → List ℕ
service_at services position = option_map_or (λ s. s.name.items) (slice_get services position) []

-- somebody is let in now, or no longer
abbrev pub is_grave : ShownChanges → Bool
is_grave changes = is_some changes.admits || is_some changes.refuses

abbrev pub is_stack : StackChange → Bool
is_stack changes.NoStack = false
is_stack _ = true

-- the number of stacks that some configuration has
abbrev pub compared_count : List ComparedStack → ℕ
compared_count stacks = count_by (λ s. is_stack s.change) stacks

-- the file of a module's rule, if there is one, and its line
abbrev pub file_of_rule : Folder → Items → ℕ → Option (List ℕ)
file_of_rule files items number = option_and_then (λ m. file_at files (Some m.file)) (module_at number items)

abbrev pub line_of_rule : Items → ℕ → ℕ
line_of_rule items number = option_map_or (λ m. m.line) (module_at number items) 0

-- what became of a module that a configuration alone has, and the name of that configuration
abbrev pub change_name : Configuration → List ℕ
change_name Old = codes "removed"
change_name New = codes "added"

abbrev pub configuration_name : Configuration → List ℕ
configuration_name Old = codes "old"
configuration_name New = codes "new"
