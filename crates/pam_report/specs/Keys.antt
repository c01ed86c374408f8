-- U10: what the line says of a key of `--set`.
use Rattle.std.specs.Prelude.{◌==◌, not, List, ℕ, [], find, length, map, Option, Some, None, Result, Ok, Err, if◌then◌else◌}
use Rattle.std.specs.Option.{option_map_or}
use Rattle.pam_conf.specs.Files.{Folder}
use Rattle.pam_conf.specs.Resolution.{resolved}
use Rattle.pam_conf.specs.Stack.{Items}
use Rattle.pam_conf.specs.declared.conf_error.ConfError.{ConfError}
use Rattle.pam_facts.specs.settings.Settings.{SettingText, setting_view}
use Rattle.pam_words.specs.declared.wanted.Task.{Task}
use Rattle.pam_words.specs.declared.wanted.Task.TheVariants.{Compare, Graph, Needs, Outcomes, Policy}
use Rattle.pam_report.specs.Compare.{side_of}
use Rattle.pam_report.specs.ComparedKeys.{names_module_in}
use Rattle.pam_report.specs.Inputs.{new_given, old_given}
use Rattle.pam_report.specs.Mistakes.{named_text}
use Rattle.pam_report.specs.Settings.{names_one}
use Rattle.pam_report.specs.declared.fault.naming.Meant.{Meant}
use Rattle.pam_report.specs.declared.fault.naming.Meant.TheVariants as meant
use Rattle.pam_report.specs.declared.inputs.Inputs.{Inputs}

-- the first of these settings that names no module, or has no codes
abbrev pub first_in_stack : Folder → List SettingText → Result Items ConfError → Option SettingText
first_in_stack files settings (Ok items) = find (λ setting. not (names_one files items setting)) settings
first_in_stack files settings (Err e) = None

abbrev pub first_in_files : Folder → Folder → List SettingText → Option SettingText
first_in_files old new settings = find (λ setting. not (names_module_in old new setting)) settings

-- THE SETTING that is refused, where the task tells it. `paths` does not
abbrev pub wrong_setting : List ℕ → Task → Folder → Inputs → Option SettingText
wrong_setting service (Outcomes source kind knowledge) files inputs =
    first_in_stack files (map setting_view knowledge.settings.items) (resolved files service kind)
wrong_setting service (Graph source kind format knowledge) files inputs =
    first_in_stack files (map setting_view knowledge.settings.items) (resolved files service kind)
wrong_setting service (Needs source kind knowledge) files inputs = first_in_files files files (map setting_view knowledge.settings.items)
wrong_setting service (Policy source names fail_on knowledge) files inputs = first_in_files files files (map setting_view knowledge.settings.items)
wrong_setting service (Compare old new named kind given) files inputs =
    first_in_files (side_of (old_given inputs)).folder (side_of (new_given inputs)).folder (map setting_view given.settings.items)
wrong_setting service task files inputs = None

-- what is wrong with it, and what is said of it
abbrev pub meant_of : SettingText → Meant
meant_of setting = if length setting.codes == 0 then meant.NoCode else meant.Key

abbrev pub setting_said : SettingText → List ℕ
setting_said setting = named_text (meant_of setting) None setting.key

abbrev pub key_said : Option SettingText → List ℕ
key_said setting = option_map_or setting_said setting []
