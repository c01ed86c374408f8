-- For private contracts and proofs alone: the wrong arguments of a rule, as they are looked for.
use Rattle.std.specs.Prelude.{◌≡◌, ◌⊎◌, ◌-◌, ℕ, List, Option, Some, slice_get}
use Rattle.std.specs.Option.{option_and_then}
use Rattle.pam_facts.specs.arguments.Verdicts.{Module}
use Rattle.pam_facts.specs.declared.arguments.lacks.Lack.{Lack}
use Rattle.pam_conf.specs.Stack.{ModuleText}
use Rattle.pam_conf.specs.declared.rule.Kind.{Kind}
use Rattle.pam_facts.specs.Rows.{Row}
use Rattle.pam_facts.specs.arguments.Calls.{known_of, lack_in}
use Rattle.pam_findings.specs.host.Arguments.{wrong_at}
use Rattle.pam_findings.specs.host.MissingFiles.{missing_by}
use Rattle.pam_findings.specs.host.inner.Looked.{spot_at}
use Rattle.pam_findings.specs.declared.host.problem.ArgumentProblem.{ArgumentProblem}
use Rattle.pam_findings.specs.declared.host.problem.Problem.TheVariants as problems
use Rattle.pam_findings.specs.declared.host.problem.Spot.{Spot}

-- the problem of the argument at a position, if something is wrong with it
pub record OfWrong (rule : ModuleText) (position : ℕ) (found : Option ArgumentProblem) (spot : Spot) : Type 0 where
  pub wrong : ArgumentProblem
  pub is : found ≡ Some wrong
  pub at : spot ≡ spot_at rule (problems.Argument position wrong)

-- that of some argument, where this is known of the module
pub record OfKnown (rows : List Row) (known : Option Module) (kind : Kind) (rule : ModuleText) (spot : Spot) : Type 0 where
  pub position : ℕ
  pub of : OfWrong rule position (wrong_at rows known kind rule position) spot

-- what is found of the argument at a position, where this is found of each word
abbrev pub found_at : (List ℕ → Option ArgumentProblem) → ModuleText → ℕ → Option ArgumentProblem
found_at by_word rule position = option_and_then by_word (slice_get rule.arguments position)

-- the problem of some argument
pub record OfFound (by_word : List ℕ → Option ArgumentProblem) (rule : ModuleText) (spot : Spot) : Type 0 where
  pub position : ℕ
  pub of : OfWrong rule position (found_at by_word rule position) spot

-- that of the argument with this number, from 1
abbrev pub OfNumbered : (List ℕ → Option ArgumentProblem) → ModuleText → ℕ → Spot → Type 0
OfNumbered by_word rule number spot = OfWrong rule (number - 1) (found_at by_word rule (number - 1)) spot

-- what the arguments lack, if they lack something
pub record OfLack (found : Option Lack) (rule : ModuleText) (spot : Spot) : Type 0 where
  pub lack : Lack
  pub is : found ≡ Some lack
  pub at : spot ≡ spot_at rule (problems.BadArguments lack)

abbrev pub OfArguments : List Row → Option (List (List ℕ)) → Kind → ModuleText → Spot → Type 0
OfArguments rows files kind rule spot =
    (OfKnown rows (known_of rule) kind rule spot ⊎ OfLack (lack_in kind rule) rule spot) ⊎ OfFound (missing_by files kind rule) rule spot
