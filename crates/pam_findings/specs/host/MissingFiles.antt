-- Files that arguments name, and without which a module fails or lets pass: the manual page of each module.
use Rattle.std.specs.Prelude.{ℕ, ◌&&◌, ◌||◌, Bool, false, not, List, codes, if◌then◌else◌, nat_eq, Option, Some, None, slice_get}
use Rattle.std.specs.List.{starts_with}
use Rattle.std.specs.Option.{option_and_then, option_map_or}
use Rattle.std.specs.Str.{bytes_eq}
use Rattle.pam_conf.specs.Stack.{ModuleText}
use Rattle.pam_conf.specs.declared.rule.Kind.{Kind}
use Rattle.pam_conf.specs.declared.rule.Kind.TheVariants.{Auth, Account, Password, Session}
use Rattle.pam_facts.specs.Answers.{is_there}
use Rattle.pam_facts.specs.Paths.{module_name}
use Rattle.pam_findings.specs.host.Callers.{has_argument}
use Rattle.pam_findings.specs.declared.host.missing_files.Absence.{Absence}
use Rattle.pam_findings.specs.declared.host.missing_files.Absence.TheVariants.{Fails, Passes}
use Rattle.pam_findings.specs.declared.host.problem.ArgumentProblem.{ArgumentProblem}
use Rattle.pam_findings.specs.declared.host.problem.ArgumentProblem.TheVariants.{MissingFile}

-- how an argument begins that names a file by an absolute path, of the modules that read it in one kind alone or in some
abbrev pub file_front_in : Kind → List ℕ → Option (List ℕ)
file_front_in Auth name =
    if bytes_eq name (codes "pam_issue") then Some (codes "issue=/")
    else if bytes_eq name (codes "pam_userdb") then Some (codes "db=/")
    else if bytes_eq name (codes "pam_faillock") || (bytes_eq name (codes "pam_radius_auth") || bytes_eq name (codes "pam_duo")) then Some (codes "conf=/")
    else None
file_front_in Account name =
    if bytes_eq name (codes "pam_time") then Some (codes "conffile=/")
    else if bytes_eq name (codes "pam_userdb") then Some (codes "db=/")
    else if bytes_eq name (codes "pam_faillock") then Some (codes "conf=/")
    else None
file_front_in Password name = if bytes_eq name (codes "pam_passwdqc") then Some (codes "config=/") else None
file_front_in Session name =
    if bytes_eq name (codes "pam_limits") || bytes_eq name (codes "pam_radius_auth") then Some (codes "conf=/") else None

-- the same, of those that read it in each kind too
abbrev pub file_front : Kind → List ℕ → Option (List ℕ)
file_front kind name =
    if bytes_eq name (codes "pam_access") then Some (codes "accessfile=/")
    else if bytes_eq name (codes "pam_listfile") || bytes_eq name (codes "pam_localuser") then Some (codes "file=/")
    else file_front_in kind name

abbrev pub has_front : Kind → List ℕ → List ℕ → Bool
has_front kind name word = option_map_or (starts_with nat_eq word) (file_front kind name) false

-- the argument of a module at a path names a file that the module cannot do without, by an absolute path
abbrev pub names_file : Kind → List ℕ → List ℕ → Bool
names_file kind path word = option_map_or (λ name. has_front kind name word) (module_name path) false

-- it does so in some kind
abbrev pub may_name_file : List ℕ → List ℕ → Bool
may_name_file path word =
    names_file Auth path word || (names_file Account path word || (names_file Password path word || names_file Session path word))

-- what a module does without its file, by its name
abbrev pub absence_by : List ℕ → Absence
absence_by name =
    if bytes_eq name (codes "pam_time") || bytes_eq name (codes "pam_duo") then Passes else Fails

abbrev pub absence_of : List ℕ → Absence
absence_of path = option_map_or absence_by (module_name path) Fails

-- pam_listfile(8): the rule says that the module shall succeed where it has no file, so the file need not be there
abbrev pub may_lack_file : ModuleText → Bool
may_lack_file rule = has_argument (codes "onerr=succeed") rule.arguments

-- what is wrong with an argument whose file is not there, where the arguments are known whose files are there
abbrev pub missing_by : Option (List (List ℕ)) → Kind → ModuleText → List ℕ → Option ArgumentProblem
missing_by files kind rule word =
    if names_file kind rule.path word && (not (may_lack_file rule) && not (is_there files word)) then Some (MissingFile (absence_of rule.path)) else None

-- S24: WHAT IS WRONG with the argument of a rule at a position, from 0, if it names a file that is not there
abbrev pub missing_file : Option (List (List ℕ)) → Kind → ModuleText → ℕ → Option ArgumentProblem
missing_file files kind rule position = option_and_then (missing_by files kind rule) (slice_get rule.arguments position)
