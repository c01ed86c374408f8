-- The codes of modules: `--set KEY=CODES`.
use Rattle.std.specs.Prelude.{ℕ, List, [], ◌∷◌, codes, Option, Some, None, Result, Ok, Err}
use Rattle.clap.specs.Lexer.{name_and_value}
use Rattle.clap.specs.Words.{Row, Text}
use Rattle.pam_facts.specs.settings.Settings.{SettingText}
use Rattle.pam_words.specs.Asked.{Refusal, code_name, setting_form}
use Rattle.pam_words.specs.Decisions.{set_of_text}
use Rattle.pam_words.specs.Values.{texts_of}

abbrev pub key_with : Text → Text → Option (Text × Text)
key_with [] text = None
key_with (k ∷ ks) text = Some (k ∷ ks, text)

abbrev pub key_if_any : Text → Option Text → Option (Text × Text)
key_if_any key None = None
key_if_any key (Some text) = key_with key text

-- the key before the first `=`, which is not empty, and the text after it
abbrev pub key_in : Text × Option Text → Option (Text × Text)
key_in parts = key_if_any parts.0 parts.1

-- a key with its codes, in the form in which `paths` prints them. Each must be the name of one
abbrev pub with_codes : Text → Option (List ℕ) → Result SettingText Refusal
with_codes key None = Err code_name
with_codes key (Some codes) = Ok (record { key = key; codes = codes })

abbrev pub setting_or_refuse : Option (Text × Text) → Result SettingText Refusal
setting_or_refuse None = Err setting_form
setting_or_refuse (Some parts) = with_codes parts.0 (set_of_text parts.1)

abbrev pub setting_of : Text → Result SettingText Refusal
setting_of text = setting_or_refuse (key_in (name_and_value text))

-- a setting before the others, or the first refusal
abbrev pub before : Result SettingText Refusal → Result (List SettingText) Refusal → Result (List SettingText) Refusal
before (Err refusal) rest = Err refusal
before (Ok first) (Err refusal) = Err refusal
before (Ok first) (Ok rest) = Ok (first ∷ rest)

-- the settings of these texts, in order
abbrev pub settings_in : List Text → Result (List SettingText) Refusal
settings_in [] = Ok []
settings_in (text ∷ texts) = before (setting_of text) (settings_in texts)

abbrev pub settings_of : List Row → Result (List SettingText) Refusal
settings_of rows = settings_in (texts_of (codes "set") rows)
