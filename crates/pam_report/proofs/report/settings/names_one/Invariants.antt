-- the modules that are left name the setting as all do
use Rattle.std.proofs.Common.{◌≡◌, ◌+◌, ◌-◌}
use Rattle.std.specs.List.{list_any, range_with_len}
use Rattle.pam_conf.specs.Stack.{module_count}
use Rattle.pam_facts.specs.known.Knowledge.{numbers}
use Rattle.pam_report.specs.Settings.{sets_at}
use Rattle.pam_facts.specs.settings.Settings.{setting_view}
use Rattle.pam_report.proofs.report.settings.names_one.Given as goal

abbrev pub invariant-loop-index : goal.invariant-loop-index
invariant-loop-index l =
    list_any (sets_at l.files l.stack (setting_view l.setting)) (range_with_len (l.index + 1) (module_count l.stack - l.index))
    ≡ list_any (sets_at l.files l.stack (setting_view l.setting)) (numbers l.stack)
