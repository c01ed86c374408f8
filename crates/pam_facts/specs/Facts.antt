-- What is known of a module.
use Rattle.std.specs.Prelude.{ℕ, ◌==◌, Bool, false, List, [], ◌∷◌, not}
use Rattle.pam_codes.specs.Code.{all_codes, module_unknown}
use Rattle.pam_conf.specs.declared.rule.Kind.{Kind}
use Rattle.pam_conf.specs.declared.rule.Kind.TheVariants.{Auth, Account, Password, Session}
use Rattle.pam_facts.specs.declared.row.Class.TheVariants.{Checks}
use Rattle.pam_facts.specs.declared.row.CodesByKind.{CodesByKind}
use Rattle.pam_facts.specs.declared.row.Fact.{Fact}

-- the codes in a kind; none where any code is possible
abbrev pub codes_of : Kind → CodesByKind → List ℕ
codes_of Auth codes = codes.auth
codes_of Account codes = codes.account
codes_of Password codes = codes.password
codes_of Session codes = codes.session

-- any code in each kind
abbrev pub any_codes : CodesByKind
any_codes = record { auth = []; account = []; password = []; session = [] }

-- a module of which nothing is known checks, and can answer any code
abbrev pub unknown : Fact
unknown = record { class = Checks; codes = any_codes }

abbrev pub or_all : List ℕ → List ℕ
or_all [] = all_codes
or_all (code ∷ codes) = code ∷ codes

-- THE CODES that a module can answer in a kind
abbrev pub codes_in : Kind → Fact → List ℕ
codes_in kind fact = or_all (codes_of kind fact.codes)

abbrev pub is_unknown_alone : List ℕ → Bool
is_unknown_alone (code ∷ []) = code == module_unknown
is_unknown_alone _ = false

-- whether a module has a function in a kind: one that has none answers module_unknown alone
abbrev pub has_function : Kind → Fact → Bool
has_function kind fact = not (is_unknown_alone (codes_in kind fact))
