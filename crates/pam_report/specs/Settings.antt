-- What modules answer, as the command line says it: `--set KEY=CODES`.
use Rattle.std.specs.Prelude.{ℕ, ◌==◌, ◌&&◌, ◌||◌, Bool, false, not, nat_eq, List, [], ◌∷◌, decimal, drop, length, slice_get, unwrap_or}
use Rattle.std.specs.Prelude.{if◌then◌else◌, Option, Some, None, Result, Ok, Err}
use Rattle.std.specs.List.{list_all, list_any, starts_with}
use Rattle.std.specs.Option.{option_map_or, option_or}
use Rattle.std.specs.Str.{bytes_eq}
use Rattle.pam_conf.specs.Files.{Folder}
use Rattle.pam_conf.specs.Stack.{Items, ModuleText, module_at}
use Rattle.pam_facts.specs.Missing.{where_there}
use Rattle.pam_facts.specs.known.Answers.{name_of_path}
use Rattle.pam_facts.specs.known.Knowledge.{numbers}
use Rattle.pam_report.specs.KnownStack.{KnownItems}
use Rattle.pam_report.specs.declared.fault.Fault.{Fault}
use Rattle.pam_report.specs.declared.fault.Fault.TheVariants as faults
use Rattle.pam_facts.specs.settings.Settings.{SettingText}

-- the name of the file of a module's rule
abbrev pub file_of : Folder → ModuleText → List ℕ
file_of files m = option_map_or (λ f. f.0) (slice_get files.entries m.file) []

-- `FILE:LINE` of its rule: the name of the file, and after it a colon and the number of the line
abbrev pub is_place : List ℕ → ℕ → List ℕ → Bool
is_place file line key = starts_with nat_eq key file && bytes_eq (drop (length file) key) (58 ∷ decimal line)

-- a key names a module by its name, its number, or the place of its rule
abbrev pub names_module : Folder → ModuleText → List ℕ → Bool
names_module files m key = bytes_eq key (name_of_path m.path) || (bytes_eq key (decimal m.number) || is_place (file_of files m) m.line key)

-- some codes are set for a module
abbrev pub sets : Folder → ModuleText → SettingText → Bool
sets files m setting = not (length setting.codes == 0) && names_module files m setting.key

abbrev pub codes_by : Folder → ModuleText → SettingText → Option (List ℕ)
codes_by files m setting = if sets files m setting then Some setting.codes else None

-- the codes that are set for a module: by the last of several settings
abbrev pub codes_set : Folder → ModuleText → List SettingText → Option (List ℕ)
codes_set files m [] = None
codes_set files m (setting ∷ settings) = option_or (codes_set files m settings) (codes_by files m setting)

-- the same, by the number of the module
unfoldable pub set_at : Folder → List SettingText → Items → ℕ → Option (List ℕ)
set_at files settings items number = option_map_or (λ m. codes_set files m settings) (module_at number items) None

-- some codes are set for the module of a number
abbrev pub sets_at : Folder → Items → SettingText → ℕ → Bool
sets_at files items setting number = option_map_or (λ m. sets files m setting) (module_at number items) false

-- a setting names a module of a stack
abbrev pub names_one : Folder → Items → SettingText → Bool
names_one files items setting = list_any (sets_at files items setting) (numbers items)

-- THE STACK WITH SETTINGS: a module for which codes are set returns one of these, whatever tables and the returns file say of it, unless
-- it is not there. Each setting names a module of the stack
abbrev pub with_settings : Folder → Option (List (List ℕ)) → List SettingText → Result KnownItems Fault → Result KnownItems Fault
with_settings files there settings (Err fault) = Err fault
with_settings files there settings (Ok stack) =
    if list_all (names_one files stack.items) settings
    then Ok (record {
      items = stack.items;
      codes = where_there there stack.items (λ number. unwrap_or (set_at files settings stack.items number) (stack.codes number));
    })
    else Err faults.NoSuchKey
