-- What modules answer, as the command line says it.
use Rattle.std.specs.Prelude.{ℕ, List}
use Rattle.pam_facts.specs.declared.settings.setting.Setting.{Setting}

-- what a module answers: the key that names it, and codes
pub record SettingText : Type 0 where
  pub key : List ℕ
  pub codes : List ℕ

abbrev pub setting_view : Setting → SettingText
setting_view s = record { key = s.key.now; codes = s.codes }
