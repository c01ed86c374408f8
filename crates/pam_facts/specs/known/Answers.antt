-- The code of a module that reads a table: pam_access(8), pam_time(8).
use Rattle.std.specs.Prelude.{◌≡◌, ℕ, ◌==◌, Bool, ◌&&◌, not, nat_eq, if◌then◌else◌, List, [], ◌∷◌, codes, Option, None, Some, Result, Ok, Err}
use Rattle.std.specs.List.{after_last, list_any, starts_with}
use Rattle.std.specs.Option.{option_map, option_or}
use Rattle.std.specs.Str.{bytes_eq}
use Rattle.pam_conf.specs.Stack.{ModuleText}
use Rattle.pam_conf.specs.Walk.{same_kind}
use Rattle.pam_conf.specs.declared.rule.Kind.{Kind}
use Rattle.pam_conf.specs.declared.rule.Kind.TheVariants.{Account}
use Rattle.pam_dispatch.specs.State.{perm_denied, success}
use Rattle.pam_tables.specs.Groups.{Group}
use Rattle.pam_tables.specs.Login.{LoginText}
use Rattle.pam_tables.specs.Options.{options_of}
use Rattle.pam_tables.specs.declared.access.AccessAnswer.{AccessAnswer}
use Rattle.pam_tables.specs.declared.access.AccessAnswer.TheVariants as access
use Rattle.pam_tables.specs.declared.error.Table.{Table}
use Rattle.pam_tables.specs.declared.error.TableFault.{TableFault}
use Rattle.pam_tables.specs.times.Reading.{rules_of}
use Rattle.pam_tables.specs.times.Times.{answer_of}
use Rattle.pam_tables.specs.declared.times.error.TimeError.{TimeError}
use Rattle.pam_tables.specs.declared.times.error.TimeFault.{TimeFault}
use Rattle.pam_tables.specs.declared.times.error.TimeFault.TheVariants as times
use Rattle.pam_tables.specs.declared.times.table.TimeAnswer.{TimeAnswer}
use Rattle.pam_tables.specs.declared.times.table.TimeAnswer.TheVariants as answers
use Rattle.pam_facts.specs.known.Access.{IsTableFault, numbered, result_map, tables_decide}
use Rattle.pam_facts.specs.known.Tables.{TablesText, TimedText}
use Rattle.pam_facts.specs.declared.known.error.KnownError.{KnownError}
use Rattle.pam_facts.specs.declared.known.error.KnownError.TheVariants as known
use Rattle.pam_facts.specs.declared.known.error.NumberedError.{NumberedError}

-- ---- results of calls

abbrev pub IsTimeFault : TimeFault → ℕ → Type 0 → Type 0
IsTimeFault times.Memory line exact = line ≡ 0
IsTimeFault fault line exact = exact

-- exactly this fault, unless an allocation failed, which has no line
abbrev pub IsFault : KnownError → Type 0 → Type 0
IsFault (known.Table e) exact = IsTableFault e.error.fault e.error.line exact
IsFault (known.Time e) exact = IsTimeFault e.fault e.line exact

-- a fault of numbered tables among all faults
abbrev pub among_known : {T : Type 0} → Result T NumberedError → Result T KnownError
among_known (Ok t) = Ok t
among_known (Err e) = Err (known.Table e)

-- a table, or its fault together with the kind of the table, which is the only one of its kind or the first
abbrev pub read_as : {T : Type 0} → Table → Result T (TableFault × ℕ) → Result T KnownError
read_as table read = among_known (numbered table 1 read)

-- a time table, or its fault
abbrev pub read_times : {T : Type 0} → Result T TimeError → Result T KnownError
read_times (Ok t) = Ok t
read_times (Err e) = Err (known.Time e)

-- ---- the table that a module reads

-- the name of a module: the text after the last slash of its path
unfoldable pub name_of_path : List ℕ → List ℕ
name_of_path path = after_last (λ b. b == 47) path

-- whether an argument begins with this key
unfoldable pub has_key : List ℕ → List (List ℕ) → Bool
has_key key arguments = list_any (λ a. starts_with nat_eq a key) arguments

-- a module of this name, of which no argument with this key names another file
unfoldable pub is_reader : List ℕ → List ℕ → ModuleText → Bool
is_reader name key m = bytes_eq (name_of_path m.path) name && not (has_key key m.arguments)

-- a module that reads the access tables of the system
abbrev pub is_access_reader : ModuleText → Bool
is_access_reader m = is_reader (codes "pam_access.so") (codes "accessfile=") m

-- a module of a kind that reads the time table of the system. Only `account` modules do
abbrev pub is_time_reader : Kind → ModuleText → Bool
is_time_reader kind m = same_kind kind Account && is_reader (codes "pam_time.so") (codes "conffile=") m

-- tables, if there is one
abbrev pub if_any : List (List ℕ) → Option (List (List ℕ))
if_any [] = None
if_any (table ∷ others) = Some (table ∷ others)

-- the access tables, if one is given and the module reads them
unfoldable pub access_read : TablesText → ModuleText → Option (List (List ℕ))
access_read tables m = if is_access_reader m then if_any tables.access else None

-- the time table, if it is given and the module reads it
unfoldable pub time_read : Kind → TablesText → ModuleText → Option TimedText
time_read kind tables m = if is_time_reader kind m then tables.time else None

-- ---- the code that the table tells

-- a granted login is a success
abbrev pub access_code : AccessAnswer → ℕ
access_code (access.Granted line) = success
access_code (access.Denied line) = perm_denied

abbrev pub time_code : TimeAnswer → ℕ
time_code answers.Granted = success
time_code (answers.Denied line) = perm_denied

-- the code that access tables tell, read with the arguments of the module: that of the first table in which a line matches
unfoldable pub access_told : LoginText → List Group → List (List ℕ) → List (List ℕ) → Result ℕ KnownError
access_told login groups arguments contents =
    among_known (result_map (λ decision. access_code decision.answer) (tables_decide login groups (options_of arguments) contents))

-- the code that a time table tells
unfoldable pub time_told : LoginText → TimedText → Result ℕ KnownError
time_told login timed = result_map (λ rules. time_code (answer_of rules login timed.moment)) (read_times (rules_of timed.bytes))

-- THE CODE of a module that reads a table, or the table's fault; none for other modules
unfoldable pub table_answer : Kind → LoginText → TablesText → List Group → ModuleText → Option (Result ℕ KnownError)
table_answer kind login tables groups m =
    option_or (option_map (access_told login groups m.arguments) (access_read tables m)) (option_map (time_told login) (time_read kind tables m))
