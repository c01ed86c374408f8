-- What the modules of a stack may answer, as far as it is known.
use Rattle.std.specs.Prelude.{ℕ, ◌==◌, ◌&&◌, ◌||◌, Bool, true, false, not, List, [], ◌∷◌, if◌then◌else◌, is_some, length, unwrap_or}
use Rattle.std.specs.Prelude.{Option, Some, None, Result, Ok, Err}
use Rattle.std.specs.Option.{option_and_then, option_map_or, option_or}
use Rattle.std.specs.Str.{bytes_eq}
use Rattle.pam_codes.specs.Code.{ignored}
use Rattle.pam_codes.specs.Set.{codes_where, is_in}
use Rattle.pam_conf.specs.Stack.{Items, ModuleText, module_at}
use Rattle.pam_conf.specs.declared.rule.Kind.{Kind}
use Rattle.pam_conf.specs.declared.rule.Kind.TheVariants.{Auth}
use Rattle.pam_facts.specs.Answers.{or_failure}
use Rattle.pam_facts.specs.Facts.{codes_in}
use Rattle.pam_facts.specs.Failing.{always_fails}
use Rattle.pam_facts.specs.Fitting.{fact_of, has_row}
use Rattle.pam_facts.specs.Missing.{where_there}
use Rattle.pam_facts.specs.Rows.{Row}
use Rattle.pam_facts.specs.known.Answers.{access_read, name_of_path}
use Rattle.pam_facts.specs.known.Knowledge.{◌>>=◌, knowledge, returns_read}
use Rattle.pam_facts.specs.known.Tables.{TablesText}
use Rattle.pam_facts.specs.settings.Settings.{SettingText}
use Rattle.pam_facts.specs.declared.known.error.KnownError.{KnownError}
use Rattle.pam_facts.specs.declared.row.Class.{Class}
use Rattle.pam_facts.specs.declared.row.Class.TheVariants as classes
use Rattle.pam_facts.specs.declared.row.Fact.{Fact}
use Rattle.pam_tables.specs.Returns.{ReturnLine, codes_for}
use Rattle.pam_policy.specs.host.Sources.{SourcesText, login_to}

-- a setting has codes, and its key is the name of the file of a module
abbrev pub sets : List ℕ → SettingText → Bool
sets name setting = not (length setting.codes == 0) && bytes_eq setting.key name

abbrev pub codes_by : List ℕ → SettingText → Option (List ℕ)
codes_by name setting = if sets name setting then Some setting.codes else None

-- THE CODES THAT ARE SET for the modules of a name: by the last of several settings
abbrev pub codes_set : List ℕ → List SettingText → Option (List ℕ)
codes_set name [] = None
codes_set name (setting ∷ settings) = option_or (codes_set name settings) (codes_by name setting)

-- those of a module, by its number
unfoldable pub set_at : List SettingText → Items → ℕ → Option (List ℕ)
set_at settings items number = option_map_or (λ m. codes_set (name_of_path m.path) settings) (module_at number items) None

-- the lines of the returns file, if one is given and has no fault
abbrev pub lines_of_read : Result (List ReturnLine) KnownError → List ReturnLine
lines_of_read (Ok lines) = lines
lines_of_read (Err e) = []

abbrev pub lines_in : TablesText → List ReturnLine
lines_in tables = lines_of_read (returns_read tables.returns)

-- in auth: an access table, or a line of the returns file, says what a module answers
abbrev pub is_told : TablesText → List ReturnLine → ModuleText → Bool
is_told tables lines m = is_some (access_read tables m) || is_some (codes_for lines (name_of_path m.path))

abbrev pub is_checks : Class → Bool
is_checks classes.Checks = true
is_checks class = false

-- a row of the class `checks` tells of a module, which takes its arguments; one that does not take them fails, and does not answer ignore
abbrev pub is_checker : List Row → ModuleText → Bool
is_checker rows m =
    has_row rows m.path m.arguments && (is_checks (fact_of rows m.path m.arguments).class && not (always_fails rows Auth m))

-- ONE THAT CHECKS DOES NOT ANSWER ignore: in auth it answers any other code that it can. One that may answer ignore is of another class
abbrev pub checker_codes : Fact → List ℕ
checker_codes fact = or_failure (codes_where (λ code. is_in code (codes_in Auth fact) && not (is_in code (ignored ∷ []))))

abbrev pub checked_by : TablesText → List ReturnLine → ModuleText → List Row → Option (List ℕ)
checked_by tables lines m rows =
    if is_checker rows m && not (is_told tables lines m) then Some (checker_codes (fact_of rows m.path m.arguments)) else None

-- the answers of a module that checks, of which the facts alone tell
abbrev pub checked_codes : TablesText → List ReturnLine → ModuleText → Option (List ℕ)
checked_codes tables lines m = option_and_then (checked_by tables lines m) tables.facts

-- the same, by the number of the module
unfoldable pub checked_with : TablesText → List ReturnLine → Items → ℕ → Option (List ℕ)
checked_with tables lines items number = option_and_then (checked_codes tables lines) (module_at number items)

abbrev pub checked_at : Kind → TablesText → Items → ℕ → Option (List ℕ)
checked_at Auth tables items number = checked_with tables (lines_in tables) items number
checked_at kind tables items number = None

abbrev pub with_checked : Kind → TablesText → Items → (ℕ → List ℕ) → ℕ → List ℕ
with_checked kind tables items codes number = unwrap_or (checked_at kind tables items number) (codes number)

-- of the modules of a stack, by their numbers: `module_unknown` alone of one that is not there; else the codes that are set for it; else
-- these codes
abbrev pub with_settings : SourcesText → Items → (ℕ → List ℕ) → ℕ → List ℕ
with_settings sources items codes =
    where_there sources.tables.there items (λ number. unwrap_or (set_at sources.settings items number) (codes number))

-- THE ANSWERS of the modules of a service's stack, by their numbers, or the first fault of a table. One that is not there answers
-- `module_unknown` alone; any other the codes that are set for it; else what the access or time table says of the login; else the codes of
-- its line in the returns file; else what the facts say in this kind, where in auth one that checks does not answer ignore
unfoldable pub answers_of : SourcesText → List ℕ → Kind → Items → Result (ℕ → List ℕ) KnownError
answers_of sources name kind items =
    knowledge kind (login_to sources.visitor name) sources.tables items
    >>= λ codes. Ok (with_settings sources items (with_checked kind sources.tables items codes))
