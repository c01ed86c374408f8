-- the settings so far, then those of the remaining texts
use Rattle.std.proofs.Common.{◌≡◌, drop, map}
use Rattle.pam_facts.specs.settings.Settings.{setting_view}
use Rattle.pam_words.specs.Settings.{settings_in}
use Rattle.pam_words.proofs.SettingSteps.{onto}
use Rattle.pam_words.proofs.reading.settings.settings_in.Given as goal

abbrev pub invariant-loop-text : goal.invariant-loop-text
invariant-loop-text l =
    onto (map setting_view l.settings.items) (settings_in (map (λ s. s.now) (drop l.text-index l.texts))) ≡ settings_in (map (λ s. s.now) l.texts)
