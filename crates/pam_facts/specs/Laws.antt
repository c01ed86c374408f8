-- Laws of facts.
use Rattle.std.specs.Prelude.{◌≡◌, ℕ, Bool, true, false, List, [], ◌∷◌, ◌++◌, if◌then◌else◌, Option}
use Rattle.pam_codes.specs.Code.{ignored, module_unknown, new_authtok_reqd, success}
use Rattle.pam_codes.specs.Set.{is_in}
use Rattle.pam_conf.specs.Stack.{ModuleText}
use Rattle.pam_conf.specs.declared.rule.Kind.{Kind}
use Rattle.pam_facts.specs.Answers.{is_there, module_answers}
use Rattle.pam_facts.specs.Facts.{has_function, unknown}
use Rattle.pam_facts.specs.Failing.{always_fails}
use Rattle.pam_facts.specs.Fitting.{fact_of, has_row, last_fact}
use Rattle.pam_facts.specs.Rows.{Row}
use Rattle.pam_facts.specs.declared.answers.Checks.{Checks}
use Rattle.pam_facts.specs.declared.answers.Checks.TheVariants.{Fail}
use Rattle.pam_facts.specs.declared.row.Class.TheVariants as classes
use Rattle.pam_facts.specs.declared.row.Fact.{Fact}

-- of rows, the last that fits counts
abbrev pub LastRowCounts : Type 0
LastRowCounts =
    (fits : Row → Bool) (fact : Fact) (rows : List Row) (row : Row) →
    last_fact fits fact (rows ++ row ∷ []) ≡ (if fits row then row.fact else last_fact fits fact rows)

-- the same rows once more change nothing
abbrev pub TwiceIsOnce : Type 0
TwiceIsOnce = (fits : Row → Bool) (fact : Fact) (rows : List Row) → last_fact fits fact (rows ++ rows) ≡ last_fact fits fact rows

-- a module that no row fits is taken for one of which nothing is known
abbrev pub NoRowIsUnknown : Type 0
NoRowIsUnknown =
    (rows : List Row) (path : List ℕ) (arguments : List (List ℕ)) → has_row rows path arguments ≡ false → fact_of rows path arguments ≡ unknown

-- answers have no success
pub record HaveNoSuccess (answers : List ℕ) : Type 0 where
  pub success : is_in success answers ≡ false
  pub new_token : is_in new_authtok_reqd answers ≡ false

-- where checks fail, a module that checks has no success among its answers, and has ignore only if it may
pub record FailsToCheck (kind : Kind) (rows : List Row) (there : Option (List (List ℕ))) (m : ModuleText) : Type 0 where
  pub checks : (fact_of rows m.path m.arguments).class ≡ classes.Checks → HaveNoSuccess (module_answers Fail kind rows there m)
  pub ignored : (fact_of rows m.path m.arguments).class ≡ classes.Checks → is_in ignored (module_answers Fail kind rows there m) ≡ false
  pub ignores : (fact_of rows m.path m.arguments).class ≡ classes.Ignores → HaveNoSuccess (module_answers Fail kind rows there m)

abbrev pub CheckingModulesFail : Type 0
CheckingModulesFail = (kind : Kind) (rows : List Row) (there : Option (List (List ℕ))) (m : ModuleText) → FailsToCheck kind rows there m

-- a module that is not there answers module_unknown alone
abbrev pub MissingIsUnknown : Type 0
MissingIsUnknown =
    (checks : Checks) (kind : Kind) (rows : List Row) (there : Option (List (List ℕ))) (m : ModuleText) → is_there there m.path ≡ false →
    module_answers checks kind rows there m ≡ module_unknown ∷ []

-- and so does one without a function in the kind
abbrev pub FunctionlessIsUnknown : Type 0
FunctionlessIsUnknown =
    (checks : Checks) (kind : Kind) (rows : List Row) (there : Option (List (List ℕ))) (m : ModuleText) →
    has_function kind (fact_of rows m.path m.arguments) ≡ false → module_answers checks kind rows there m ≡ module_unknown ∷ []

-- a module that always fails by what its arguments are has no success among its answers, nor ignore
pub record AnswersFailures (answers : List ℕ) : Type 0 where
  pub success : is_in success answers ≡ false
  pub new_token : is_in new_authtok_reqd answers ≡ false
  pub ignored : is_in ignored answers ≡ false

abbrev pub ArgumentsFail : Type 0
ArgumentsFail =
    (checks : Checks) (kind : Kind) (rows : List Row) (there : Option (List (List ℕ))) (m : ModuleText) → always_fails rows kind m ≡ true →
    AnswersFailures (module_answers checks kind rows there m)
