-- the codes of the settings that are left, or else those that are found, are those of all
use Rattle.std.proofs.Common.{◌≡◌, ◌≢◌, [], drop, map}
use Rattle.std.specs.Prelude.{IfSome}
use Rattle.std.specs.Option.{option_or}
use Rattle.pam_conf.specs.ItemsOf.{module_text}
use Rattle.pam_report.specs.Settings.{codes_set}
use Rattle.pam_facts.specs.settings.Settings.{setting_view}
use Rattle.pam_report.proofs.report.settings.codes_set.Given as goal

abbrev pub invariant-loop-setting : goal.invariant-loop-setting
invariant-loop-setting l = record {
  some : IfSome l.found (λ codes. codes ≢ []);
  same : option_or (codes_set l.files (module_text l.module) (map setting_view (drop l.setting-index l.settings))) l.found
      ≡ codes_set l.files (module_text l.module) (map setting_view l.settings);
}
