-- the first of the settings that are left is the first of all
use Rattle.std.proofs.Common.{◌≡◌, drop, find, map, not}
use Rattle.pam_facts.specs.settings.Settings.{SettingText, setting_view}
use Rattle.pam_report.specs.ComparedKeys.{names_module_in}
use Rattle.pam_report.proofs.fault.keys.first_of_rules.Given as goal

abbrev pub invariant-loop-setting : goal.invariant-loop-setting
invariant-loop-setting l =
    find (λ (one : SettingText). not (names_module_in l.old l.new one)) (map setting_view (drop l.setting-index l.settings))
    ≡ find (λ (one : SettingText). not (names_module_in l.old l.new one)) (map setting_view l.settings)
