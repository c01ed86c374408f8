-- For private contracts and proofs alone: the sets of codes, while they are found module by module.
use Rattle.std.specs.Prelude.{◌≡◌, ◌≢◌, ℕ, ◌<◌, ◌≤◌, Bool, false, ◌&&◌, is_some, List, [], Option, Some, None, IfSome, All, Result, Ok, Err}
use Rattle.std.specs.List.{list_any}
use Rattle.std.specs.Option.{option_map}
use Rattle.pam_codes.specs.Set.{is_in, IsCodeSet}
use Rattle.pam_conf.specs.Stack.{Items, ModuleText}
use Rattle.pam_paths.specs.Known.{answers_by, set_for}
use Rattle.pam_paths.specs.declared.knowledge.Known.{Known}
use Rattle.pam_tables.specs.Groups.{Group}
use Rattle.pam_tables.specs.Login.{LoginText, login_view}
use Rattle.pam_tables.specs.Options.{Options}
use Rattle.pam_facts.specs.declared.known.error.KnownError.{KnownError}
use Rattle.pam_facts.specs.known.Access.{result_map, tables_decide}
use Rattle.pam_facts.specs.known.Answers.{IsFault, access_code, access_read, among_known, if_any, table_answer, time_read, time_told}
use Rattle.pam_facts.specs.known.Knowledge.{codes_by, first_fault, numbers, reads_access, said_at, told_at}
use Rattle.pam_facts.specs.known.Reads.{TablesRead, reads_time}
use Rattle.pam_facts.specs.known.Tables.{TablesText, tables_view}
use Rattle.pam_facts.specs.declared.known.knowledge.AccessCode.{AccessCode}
use Rattle.pam_facts.specs.declared.known.knowledge.Kept.{Kept}
use Rattle.pam_facts.specs.declared.known.knowledge.Lookup.{Lookup}

-- the code that a table tells, if it tells one, or its fault, unless an allocation failed
abbrev pub TellsIfAny : Result (Option ℕ) KnownError → Option (Result ℕ KnownError) → Type 0
TellsIfAny (Ok None) told = told ≡ None
TellsIfAny (Ok (Some code)) told = told ≡ Some (Ok code)
TellsIfAny (Err e) told = IsFault e (told ≡ Some (Err e))

-- the code that a table tells for a module, for this lookup
abbrev pub told_of : Lookup → ModuleText → Option (Result ℕ KnownError)
told_of l m = table_answer l.kind (login_view l.login.now) (tables_view l.tables.now) l.groups m

-- the same, by the number of the module
abbrev pub told_of_number : Lookup → Items → ℕ → Option (Result ℕ KnownError)
told_of_number l items number = told_at l.kind (login_view l.login.now) (tables_view l.tables.now) l.groups items number

-- what the facts say that the module of a number can answer, for this lookup
abbrev pub said_of : Lookup → Items → ℕ → List ℕ
said_of l items number = said_at l.kind (tables_view l.tables.now).facts items number

-- the code that access tables tell, read under these options
abbrev pub told_under : LoginText → List Group → Options → List (List ℕ) → Result ℕ KnownError
told_under login groups options contents =
    among_known (result_map (λ decision. access_code decision.answer) (tables_decide login groups options contents))

-- whether the time table tells this code
abbrev pub IsTimeCode : Lookup → ℕ → Type 0
IsTimeCode l code = option_map (time_told (login_view l.login.now)) (tables_view l.tables.now).time ≡ Some (Ok code)

-- whether the access tables tell this code under these options
abbrev pub IsAccessCode : Lookup → Options → ℕ → Type 0
IsAccessCode l options code =
    option_map (told_under (login_view l.login.now) l.groups options) (if_any (tables_view l.tables.now).access) ≡ Some (Ok code)

-- each kept code is what a table tells, that of the access tables under the options that it is kept for
pub record IsKept (l : Lookup) (kept : Kept) : Type 0 where
  pub time : IfSome kept.by_time (IsTimeCode l)
  pub access : All (λ (a : AccessCode). IsAccessCode l a.options a.code) kept.by_options.items

-- a set allows exactly these codes
unfoldable pub Lets : List ℕ → List ℕ → Type 0
Lets codes set = (code : ℕ) → code < 31 → answers_by set code ≡ is_in code codes

-- the codes of a line are those of its module, or the line changes nothing
abbrev pub Adds : Option (List ℕ) → Option (Result ℕ KnownError) → Option (List ℕ) → Type 0
Adds None told line = (said : List ℕ) → codes_by told line said ≡ codes_by told None said
Adds (Some codes) told line = ((said : List ℕ) → codes_by told line said ≡ codes) × IsCodeSet codes × (codes ≢ [])

-- of the modules 1 to n, the sets up to a number are done, and the later ones are as before
pub record AreDone (n : ℕ) (before done : ℕ → List ℕ → Type 0) (sets : ℕ → List ℕ) (number : ℕ) : Type 0 where
  pub first : (m : ℕ) → 1 ≤ m → m ≤ number → done m (sets m)
  pub rest : (m : ℕ) → number < m → m ≤ n → before m (sets m)

-- the sets from facts, those from tables too, and those from a returns file too
abbrev pub IsSaidSet : (ℕ → List ℕ) → ℕ → List ℕ → Type 0
IsSaidSet said number set = Lets (said number) set

abbrev pub IsTableSet : (ℕ → Option (Result ℕ KnownError)) → (ℕ → List ℕ) → ℕ → List ℕ → Type 0
IsTableSet told said number set = Lets (codes_by (told number) None (said number)) set

abbrev pub IsLineSet : (ℕ → Option (Result ℕ KnownError)) → (ℕ → Option (List ℕ)) → (ℕ → List ℕ) → ℕ → List ℕ → Type 0
IsLineSet told line said number set = Lets (codes_by (told number) (line number) (said number)) set

-- the codes that tables tell for the modules 1 to n, or the first fault, unless an allocation failed
abbrev pub TellsAll : ℕ → (ℕ → Option (Result ℕ KnownError)) → (ℕ → List ℕ) → List ℕ → Result Known KnownError → Type 0
TellsAll n told said numbers (Ok known) = (first_fault told numbers ≡ None) × ((m : ℕ) → 1 ≤ m → m ≤ n → IsTableSet told said m (set_for known m))
TellsAll n told said numbers (Err e) = IsFault e (first_fault told numbers ≡ Some e)

-- ---- the tables that are read

-- access tables or a time table, and no other file
abbrev pub of_module : Bool → Bool → TablesRead
of_module access time = record { groups = false; access = access; time = time; returns = false }

-- what a module reads, and the module of a number, and some module
abbrev pub module_reads : Lookup → ModuleText → TablesRead
module_reads l m = of_module (is_some (access_read (tables_view l.tables.now) m)) (is_some (time_read l.kind (tables_view l.tables.now) m))

abbrev pub number_reads : Lookup → Items → ℕ → TablesRead
number_reads l items number = of_module (reads_access (tables_view l.tables.now) items number) (reads_time l.kind (tables_view l.tables.now) items number)

abbrev pub some_read : Lookup → Items → TablesRead
some_read l items =
    of_module (list_any (reads_access (tables_view l.tables.now) items) (numbers items))
    (list_any (reads_time l.kind (tables_view l.tables.now) items) (numbers items))

-- the group file, if it is given and a module reads the access tables
abbrev pub of_groups : TablesText → Items → TablesRead
of_groups tables items = record {
  groups = is_some tables.groups && list_any (reads_access tables items) (numbers items);
  access = false;
  time = false;
  returns = false;
}

-- each table that is given
abbrev pub all_given : TablesText → TablesRead
all_given tables = record {
  groups = is_some tables.groups;
  access = is_some (if_any tables.access);
  time = is_some tables.time;
  returns = is_some tables.returns;
}
