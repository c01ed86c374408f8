-- The keys of settings in a comparison: the names of modules of either configuration.
use Rattle.std.specs.Prelude.{ℕ, ◌==◌, ◌&&◌, ◌||◌, Bool, false, not, List, length}
use Rattle.std.specs.List.{list_any}
use Rattle.std.specs.Str.{bytes_eq}
use Rattle.pam_conf.specs.FileRules.{good_rules}
use Rattle.pam_conf.specs.Files.{Folder}
use Rattle.pam_conf.specs.Rule.{RuleText, RuleBody, Module, Include, Sub}
use Rattle.pam_facts.specs.known.Answers.{name_of_path}
use Rattle.pam_facts.specs.settings.Settings.{SettingText}

abbrev pub body_calls : List ℕ → RuleBody → Bool
body_calls name (Module control path arguments) = bytes_eq (name_of_path path) name
body_calls name (Include target) = false
body_calls name (Sub target) = false

-- a rule calls a module of this name
abbrev pub calls : List ℕ → RuleText → Bool
calls name rule = body_calls name rule.body

-- some rule of a file, without a fault, calls a module of this name
abbrev pub has_module : Folder → List ℕ → Bool
has_module folder name = list_any (λ f. list_any (calls name) (good_rules folder.form f.1)) folder.entries

-- A SETTING NAMES A MODULE of the old or the new configuration
abbrev pub names_module_in : Folder → Folder → SettingText → Bool
names_module_in old new setting = not (length setting.codes == 0) && (has_module old setting.key || has_module new setting.key)
