-- the settings that are left name modules as all do
use Rattle.std.proofs.Common.{◌≡◌, drop, map}
use Rattle.std.specs.List.{list_all}
use Rattle.pam_report.specs.Settings.{names_one}
use Rattle.pam_report.proofs.report.settings.all_name_one.Given as goal
use Rattle.pam_facts.specs.settings.Settings.{setting_view}

abbrev pub invariant-loop-setting : goal.invariant-loop-setting
invariant-loop-setting l =
    list_all (names_one l.files l.stack) (map setting_view (drop l.setting-index l.settings))
    ≡ list_all (names_one l.files l.stack) (map setting_view l.settings)
