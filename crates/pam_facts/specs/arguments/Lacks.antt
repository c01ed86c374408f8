-- What the arguments of a rule lack as a whole, so that its module cannot do what it is for: the manual page of each module.
use Rattle.std.specs.Prelude.{ℕ, ◌&&◌, ◌||◌, Bool, true, false, not, List, [], ◌∷◌, Option, Some, None, codes, if◌then◌else◌}
use Rattle.std.specs.List.{list_all, list_any}
use Rattle.std.specs.Str.{bytes_eq}
use Rattle.pam_codes.specs.Code.{same_name}
use Rattle.pam_conf.specs.declared.rule.Kind.{Kind}
use Rattle.pam_conf.specs.declared.rule.Kind.TheVariants.{Auth, Account, Password, Session}
use Rattle.pam_facts.specs.arguments.Conditions.{can_be_judged}
use Rattle.pam_facts.specs.arguments.Rows.{begins}
use Rattle.pam_facts.specs.declared.arguments.lacks.Lack.{Lack}
use Rattle.pam_facts.specs.declared.arguments.lacks.Lack.TheVariants as lacks

-- some word begins so
abbrev pub is_given : Bool → List ℕ → List (List ℕ) → Bool
is_given any_case front words = list_any (λ word. begins any_case word front) words

-- pam_exec(8): the options without a value, each in any case
unfoldable pub exec_flags : List (List ℕ)
exec_flags = codes "debug" ∷ codes "expose_authtok" ∷ codes "quiet" ∷ codes "quiet_log" ∷ codes "seteuid" ∷ codes "stdout" ∷ []

-- pam_exec(8): the option that has it run in this kind alone
abbrev pub type_option : Kind → List ℕ
type_option Auth = codes "type=auth"
type_option Account = codes "type=account"
type_option Password = codes "type=password"
type_option Session = codes "type=open_session"

-- pam_exec(8): an option, and not the program; with `type=` of another kind the module ignores the rule, whatever comes next
abbrev pub is_exec_option : Kind → List ℕ → Bool
is_exec_option kind word = list_any (same_name word) exec_flags || (begins true word (codes "log=") || bytes_eq word (type_option kind))

-- pam_exec(8): no word is the program
abbrev pub lacks_program : Kind → List (List ℕ) → Bool
lacks_program kind words = list_all (is_exec_option kind) words

-- pam_listfile(8): what is listed, in which file, and what follows are all needed
abbrev pub lacks_list : List (List ℕ) → Bool
lacks_list words = not (is_given false (codes "item=") words && (is_given false (codes "sense=") words && is_given false (codes "file=") words))

-- pam_userdb(8): there is no database that it reads by itself. In `account` it asks for no password
abbrev pub lacks_database : Kind → List (List ℕ) → Bool
lacks_database Auth words = not (is_given true (codes "db=") words)
lacks_database kind words = false

abbrev pub has_word : List ℕ → List (List ℕ) → Bool
has_word wanted words = list_any (λ word. bytes_eq word wanted) words

-- pam_usertype(8): one of two types is needed
abbrev pub lacks_user_type : List (List ℕ) → Bool
lacks_user_type words = not (has_word (codes "issystem") words || has_word (codes "isregular") words)

-- THE LACK of a rule of this kind, by the name of its module
unfoldable pub lack_of : List ℕ → Kind → List (List ℕ) → Option Lack
lack_of name kind words =
    if bytes_eq name (codes "pam_exec") && lacks_program kind words then Some lacks.Program
    else if bytes_eq name (codes "pam_listfile") && lacks_list words then Some lacks.List
    else if bytes_eq name (codes "pam_userdb") && lacks_database kind words then Some lacks.Database
    else if bytes_eq name (codes "pam_usertype") && lacks_user_type words then Some lacks.UserType
    else if bytes_eq name (codes "pam_succeed_if") && not (can_be_judged words) then Some lacks.Condition
    else None
