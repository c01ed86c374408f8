-- The codes that modules can answer, as far as facts tell.
use Rattle.std.specs.Prelude.{◌≡◌, ℕ, ◌<◌, ◌≤◌, ◌&&◌, Bool, true, not, List, [], ◌∷◌, if◌then◌else◌, Option}
use Rattle.std.specs.List.{list_any}
use Rattle.std.specs.Option.{option_map_or}
use Rattle.std.specs.Str.{bytes_eq}
use Rattle.pam_codes.specs.Code.{all_codes, auth_err, ignored, module_unknown, new_authtok_reqd, success}
use Rattle.pam_codes.specs.Set.{codes_where, is_in}
use Rattle.pam_conf.specs.Stack.{Items, ModuleText, module_at}
use Rattle.pam_conf.specs.declared.rule.Kind.{Kind}
use Rattle.pam_paths.specs.Known.{may_answer}
use Rattle.pam_paths.specs.declared.knowledge.Known.{Known}
use Rattle.pam_facts.specs.Facts.{codes_in}
use Rattle.pam_facts.specs.Failing.{always_fails, failures}
use Rattle.pam_facts.specs.Fitting.{fact_of}
use Rattle.pam_facts.specs.Rows.{Row}
use Rattle.pam_facts.specs.declared.answers.Checks.{Checks}
use Rattle.pam_facts.specs.declared.answers.Checks.TheVariants.{Fail, MaySucceed}
use Rattle.pam_facts.specs.declared.row.Class.{Class}
use Rattle.pam_facts.specs.declared.row.Class.TheVariants as classes
use Rattle.pam_facts.specs.declared.row.Fact.{Fact}

-- the answers with which a required module lets go on
abbrev pub successes : List ℕ
successes = success ∷ new_authtok_reqd ∷ []

-- the codes that a module of a class does not answer: one that never succeeds has no success; where checks fail, one that
-- checks has none either, and answers ignore only if it may
abbrev pub left_out : Checks → Class → List ℕ
left_out checks classes.Fails = successes
left_out Fail classes.Checks = success ∷ new_authtok_reqd ∷ ignored ∷ []
left_out Fail classes.Ignores = successes
left_out checks class = []

-- a module that has no other code fails all the same
abbrev pub or_failure : List ℕ → List ℕ
or_failure [] = auth_err ∷ []
or_failure (code ∷ codes) = code ∷ codes

-- the answers that its row leaves a module
unfoldable pub answers_of : Checks → Kind → Fact → List ℕ
answers_of checks kind fact = or_failure (codes_where (λ code. is_in code (codes_in kind fact) && not (is_in code (left_out checks fact.class))))

-- whether a module is there, as far as it is known which are
abbrev pub is_there : Option (List (List ℕ)) → List ℕ → Bool
is_there there path = option_map_or (λ paths. list_any (λ known. bytes_eq known path) paths) there true

-- the answers of a module that always fails by what its arguments are: the failures among those of its row, or each if there is none
abbrev pub or_failures : List ℕ → List ℕ
or_failures [] = failures
or_failures (code ∷ codes) = code ∷ codes

unfoldable pub refused_answers : Kind → Fact → List ℕ
refused_answers kind fact =
    or_failures (codes_where (λ code. is_in code (codes_in kind fact) && not (is_in code (success ∷ new_authtok_reqd ∷ ignored ∷ []))))

-- the answers of a module that is there
abbrev pub called_answers : Checks → Kind → List Row → ModuleText → List ℕ
called_answers checks kind rows m =
    let fact = fact_of rows m.path m.arguments in
    if always_fails rows kind m then refused_answers kind fact else answers_of checks kind fact

-- THE ANSWERS of a module: module_unknown if it is not there
unfoldable pub module_answers : Checks → Kind → List Row → Option (List (List ℕ)) → ModuleText → List ℕ
module_answers checks kind rows there m =
    if is_there there m.path then called_answers checks kind rows m else module_unknown ∷ []

-- the same, by the number of the module
unfoldable pub answers_at : Checks → Kind → List Row → Option (List (List ℕ)) → Items → ℕ → List ℕ
answers_at checks kind rows there items number = option_map_or (module_answers checks kind rows there) (module_at number items) all_codes

-- the same where modules that check who logs in may succeed, and where each of them fails
abbrev pub free_answers : Kind → List Row → Option (List (List ℕ)) → Items → ℕ → List ℕ
free_answers = answers_at MaySucceed

abbrev pub failing_answers : Kind → List Row → Option (List (List ℕ)) → Items → ℕ → List ℕ
failing_answers = answers_at Fail

-- a knowledge allows each of the modules 1 to n exactly these codes
abbrev pub Allows : ℕ → Known → (ℕ → List ℕ) → Type 0
Allows n known codes = (number code : ℕ) → 1 ≤ number → number ≤ n → code < 31 → may_answer known number code ≡ is_in code (codes number)
