-- the codes of the settings that are left, or else those that are found, are those of all
use Rattle.std.proofs.Common.{◌≡◌, ◌≢◌, [], drop, map}
use Rattle.std.specs.Prelude.{IfSome}
use Rattle.std.specs.Option.{option_or}
use Rattle.pam_facts.specs.settings.Settings.{setting_view}
use Rattle.pam_policy.specs.host.Answers.{codes_set}
use Rattle.pam_policy.proofs.host.answers.codes_set.Given as goal

abbrev pub invariant-loop-setting : goal.invariant-loop-setting
invariant-loop-setting l = record {
  some : IfSome l.found (λ codes. codes ≢ []);
  same : option_or (codes_set l.name (map setting_view (drop l.setting-index l.settings))) l.found ≡ codes_set l.name (map setting_view l.settings);
}
