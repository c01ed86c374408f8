-- What is known of the answers of modules: pam.conf(5), DESCRIPTION.
use Rattle.std.specs.Prelude.{◌≡◌, ℕ, ◌≤◌, ◌==◌, ◌&&◌, Bool, true, false, not, List, [], ◌∷◌, if◌then◌else◌, is_none, length, map, unwrap_or, Option, Some, None}
use Rattle.std.specs.List.{range_with_len}
use Rattle.std.specs.Option.{option_map_or, option_or}
use Rattle.std.specs.Str.{bytes_eq}
use Rattle.pam_compare.specs.Matching.{partner_of}
use Rattle.pam_conf.specs.Stack.{Items, ModuleText, module_at, module_count}
use Rattle.pam_conf.specs.declared.rule.Kind.{Kind}
use Rattle.pam_facts.specs.Answers.{free_answers, is_there}
use Rattle.pam_facts.specs.Failing.{always_fails}
use Rattle.pam_facts.specs.known.Answers.{name_of_path}
use Rattle.pam_facts.specs.settings.Settings.{SettingText}
use Rattle.pam_tables.specs.Returns.{ReturnLine, codes_for}
use Rattle.pam_changes.specs.Sides.{SideText, SidesText}

-- some codes are set for the modules of a name
abbrev pub sets : List ℕ → SettingText → Bool
sets name setting = not (length setting.codes == 0) && bytes_eq setting.key name

abbrev pub codes_by : List ℕ → SettingText → Option (List ℕ)
codes_by name setting = if sets name setting then Some setting.codes else None

-- the codes that are set for them: by the last of several settings
abbrev pub codes_set : List ℕ → List SettingText → Option (List ℕ)
codes_set name [] = None
codes_set name (setting ∷ settings) = option_or (codes_set name settings) (codes_by name setting)

-- the codes of their line in the returns file, if there is one
abbrev pub codes_listed : Option (List ReturnLine) → List ℕ → Option (List ℕ)
codes_listed None name = None
codes_listed (Some lines) name = codes_for lines name

-- the codes that are set for a module, or else those of its line, if it is there
abbrev pub codes_told : Option (List ReturnLine) → List SettingText → Option (List (List ℕ)) → ModuleText → Option (List ℕ)
codes_told returns settings there m =
    if is_there there m.path then option_or (codes_set (name_of_path m.path) settings) (codes_listed returns (name_of_path m.path)) else None

unfoldable pub told_at : Option (List ReturnLine) → List SettingText → Option (List (List ℕ)) → Items → ℕ → Option (List ℕ)
told_at returns settings there items number = option_map_or (codes_told returns settings there) (module_at number items) None

-- THE ANSWERS of a module, by its number: the codes that are set for it, else those of its line in the returns file, else what facts say,
-- which is module_unknown if it is not there
unfoldable pub known_codes : SidesText → SideText → Kind → Items → ℕ → List ℕ
known_codes sides side kind items number =
    unwrap_or (told_at sides.returns sides.settings side.there items number) (free_answers kind sides.facts side.there items number)

-- a module is there in both configurations, or in neither
abbrev pub is_alike : SidesText → ModuleText → Bool
is_alike sides m = if is_there sides.old.there m.path then is_there sides.new.there m.path else not (is_there sides.new.there m.path)

-- the same, by the number of the module
abbrev pub is_alike_at : SidesText → Items → ℕ → Bool
is_alike_at sides items number = option_map_or (is_alike sides) (module_at number items) true

-- each of the modules is
unfoldable pub AreThereAlike : SidesText → Items → Type 0
AreThereAlike sides items =
    (number : ℕ) → 1 ≤ number → number ≤ module_count items → is_alike_at sides items number ≡ true

-- a module of which only facts tell always fails by what its arguments are
abbrev pub fails_at : SidesText → SideText → Kind → Items → ℕ → Bool
fails_at sides side kind items number =
    is_none (told_at sides.returns sides.settings side.there items number)
    && option_map_or (always_fails sides.facts kind) (module_at number items) false

-- a module of the old stack and one of the new stack do, or neither does
abbrev pub fail_alike : SidesText → Kind → Items → Items → ℕ → ℕ → Bool
fail_alike sides kind old new partner number =
    if fails_at sides sides.old kind old partner then fails_at sides sides.new kind new number else not (fails_at sides sides.new kind new number)

-- the partner of a module of the new stack, if both are there, or neither is, and both fail so, or neither does
abbrev pub partner_alike : SidesText → Kind → Items → Items → Option ℕ → ℕ → Option ℕ
partner_alike sides kind old new None number = None
partner_alike sides kind old new (Some partner) number =
    if is_alike_at sides new number && fail_alike sides kind old new partner number then Some partner else None

abbrev pub alike_partner : SidesText → Kind → Items → Items → List (Option ℕ) → ℕ → Option ℕ
alike_partner sides kind old new partners number = partner_alike sides kind old new (partner_of partners number) number

-- THE MODULES THAT ANSWER ALIKE: those that are matched, are there in both configurations or in neither, and always fail by what their
-- arguments are in both or in neither. Matched modules have one path, so it is enough to ask whether that of the new one is there
unfoldable pub alike_partners : SidesText → Kind → Items → Items → List (Option ℕ) → List (Option ℕ)
alike_partners sides kind old new partners = None ∷ map (alike_partner sides kind old new partners) (range_with_len 1 (module_count new))
