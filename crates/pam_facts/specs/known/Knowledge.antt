-- The codes that modules may return, from tables, a returns file and facts: pam.conf(5), pam_access(8), pam_time(8).
use Rattle.std.specs.Prelude.{◌≡◌, ℕ, ◌<◌, ◌≤◌, Bool, false, is_some, if◌then◌else◌, List, [], ◌∷◌, Option, Some, None, Result, Ok, Err}
use Rattle.std.specs.List.{list_any, range_with_len}
use Rattle.std.specs.Option.{option_and_then, option_map_or, option_or}
use Rattle.pam_codes.specs.Code.{all_codes}
use Rattle.pam_codes.specs.Set.{is_in}
use Rattle.pam_conf.specs.Stack.{Items, module_at, module_count}
use Rattle.pam_conf.specs.declared.rule.Kind.{Kind}
use Rattle.pam_facts.specs.Answers.{free_answers}
use Rattle.pam_facts.specs.Missing.{where_there}
use Rattle.pam_facts.specs.Rows.{Row}
use Rattle.pam_paths.specs.Known.{may_answer}
use Rattle.pam_paths.specs.Listing.{Allowance}
use Rattle.pam_paths.specs.declared.knowledge.Known.{Known}
use Rattle.pam_tables.specs.Groups.{Group, groups_of}
use Rattle.pam_tables.specs.Login.{LoginText}
use Rattle.pam_tables.specs.Returns.{ReturnLine, codes_for, returns_of}
use Rattle.pam_tables.specs.declared.error.Table.TheVariants.{Group as GroupTable, Returns as ReturnsTable}
use Rattle.pam_facts.specs.declared.known.error.KnownError.{KnownError}
use Rattle.pam_facts.specs.known.Answers.{IsFault, access_read, name_of_path, read_as, table_answer}
use Rattle.pam_facts.specs.known.Tables.{TablesText}

-- ---- modules by number

abbrev pub numbers : Items → List ℕ
numbers items = range_with_len 1 (module_count items)

-- whether a module reads the access tables
abbrev pub reads_access : TablesText → Items → ℕ → Bool
reads_access tables items number = option_map_or (λ m. is_some (access_read tables m)) (module_at number items) false

-- the code of a module that reads a table, by its number
unfoldable pub told_at : Kind → LoginText → TablesText → List Group → Items → ℕ → Option (Result ℕ KnownError)
told_at kind login tables groups items number = option_and_then (table_answer kind login tables groups) (module_at number items)

-- the codes of a module's line in a returns file, by its number
unfoldable pub line_at : List ReturnLine → Items → ℕ → Option (List ℕ)
line_at lines items number = option_and_then (λ m. codes_for lines (name_of_path m.path)) (module_at number items)

-- ---- the first fault

-- the groups, from a file that is read only if a module reads the access tables
unfoldable pub groups_read : TablesText → Items → Result (List Group) KnownError
groups_read tables items =
    if list_any (reads_access tables items) (numbers items) then option_map_or (λ bytes. read_as GroupTable (groups_of bytes)) tables.groups (Ok [])
    else Ok []

abbrev pub fault_told : Option (Result ℕ KnownError) → Option KnownError
fault_told None = None
fault_told (Some (Ok code)) = None
fault_told (Some (Err e)) = Some e

-- the first fault of a table that one of these modules reads
unfoldable pub first_fault : (ℕ → Option (Result ℕ KnownError)) → List ℕ → Option KnownError
first_fault told [] = None
first_fault told (number ∷ numbers) = option_or (fault_told (told number)) (first_fault told numbers)

-- the lines of the returns file, which is read whenever it is given
abbrev pub returns_read : Option (List ℕ) → Result (List ReturnLine) KnownError
returns_read None = Ok []
returns_read (Some bytes) = read_as ReturnsTable (returns_of bytes)

-- ---- the codes of each module

-- what facts say that a module can answer in this kind, by its number; all codes if they are not asked
unfoldable pub said_at : Kind → Option (List Row) → Items → ℕ → List ℕ
said_at kind facts items number = option_map_or (λ rows. free_answers kind rows None items number) facts all_codes

-- the code that a table tells, else the codes of a line, else what the facts say. A fault tells no code; see `knowledge`
abbrev pub codes_by : Option (Result ℕ KnownError) → Option (List ℕ) → List ℕ → List ℕ
codes_by (Some (Ok code)) line said = code ∷ []
codes_by (Some (Err e)) line said = all_codes
codes_by None (Some codes) said = codes
codes_by None None said = said

-- the knowledge that allows each module these codes, by its number
abbrev pub allows_codes : (ℕ → List ℕ) → Allowance
allows_codes codes number code = is_in code (codes number)

infixl 10 ◌>>=◌
abbrev pub ◌>>=◌ : {A B : Type 0} → Result A KnownError → (A → Result B KnownError) → Result B KnownError
(Ok x) >>= f = f x
(Err e) >>= f = Err e

abbrev pub unless : {B : Type 0} → Option KnownError → Result B KnownError → Result B KnownError
unless None told = told
unless (Some e) told = Err e

-- the codes that each module may return if all modules are there, from the tables, a returns file and facts
unfoldable pub told_knowledge : Kind → LoginText → TablesText → Items → Result (ℕ → List ℕ) KnownError
told_knowledge kind login tables items =
    groups_read tables items
    >>= λ groups. unless (first_fault (told_at kind login tables groups items) (numbers items)) (returns_read tables.returns
    >>= λ lines.
    Ok (λ number.
    codes_by (told_at kind login tables groups items number) (line_at lines items number) (said_at kind tables.facts items number)))

-- THE KNOWLEDGE of a stack for a login: the codes that each module may return, by its number. One that is not there returns
-- module_unknown alone, whatever a table, the returns file or facts say of it. The first fault is that of the groups, then those of the
-- tables, in the order of the modules, then that of the returns file
unfoldable pub knowledge : Kind → LoginText → TablesText → Items → Result (ℕ → List ℕ) KnownError
knowledge kind login tables items = told_knowledge kind login tables items >>= λ codes. Ok (where_there tables.there items codes)

-- ---- results of calls

-- two knowledges allow each of the modules 1 to n the same codes
abbrev pub Agree : ℕ → Allowance → Allowance → Type 0
Agree n one other = (number code : ℕ) → 1 ≤ number → number ≤ n → code < 31 → one number code ≡ other number code

-- the codes of the modules 1 to n, or the first fault, unless an allocation failed
abbrev pub Knows : ℕ → Result Known KnownError → Result (ℕ → List ℕ) KnownError → Type 0
Knows n (Ok known) told = (codes : ℕ → List ℕ) × (told ≡ Ok codes) × Agree n (may_answer known) (allows_codes codes)
Knows n (Err e) told = IsFault e (told ≡ Err e)
