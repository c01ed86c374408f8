-- the settings that are left name modules as all do
use Rattle.std.proofs.Common.{◌≡◌, drop, map}
use Rattle.std.specs.List.{list_all}
use Rattle.pam_report.specs.ComparedKeys.{names_module_in}
use Rattle.pam_report.proofs.report.compared_keys.all_name_modules.Given as goal
use Rattle.pam_facts.specs.settings.Settings.{setting_view}

abbrev pub invariant-loop-setting : goal.invariant-loop-setting
invariant-loop-setting l =
    list_all (names_module_in l.old l.new) (map setting_view (drop l.setting-index l.settings))
    ≡ list_all (names_module_in l.old l.new) (map setting_view l.settings)
