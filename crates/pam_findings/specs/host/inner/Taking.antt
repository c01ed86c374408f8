-- For private contracts and proofs alone: rules whose modules only take a token, where none is asked for before them.
use Rattle.std.specs.Prelude.{◌≡◌, ℕ, ◌≤◌, Bool, true, false, List, Option, None, Some, if◌then◌else◌}
use Rattle.std.specs.Option.{option_map_or}
use Rattle.pam_conf.specs.Stack.{Items, ModuleText, module_at}
use Rattle.pam_conf.specs.declared.rule.Kind.{Kind}
use Rattle.pam_text.specs.Members.{Member}
use Rattle.pam_findings.specs.host.StackProblems.{TakesNone}
use Rattle.pam_findings.specs.host.Tokens.{NoneAsksBefore, may_ask_for, only_takes, takes}
use Rattle.pam_findings.specs.host.Verdicts.{Judged, Judgement}
use Rattle.pam_findings.specs.host.inner.WrongArguments.{OfFound}
use Rattle.pam_findings.specs.stack.inner.Marks.{mark_of}
use Rattle.pam_findings.specs.declared.host.problem.ArgumentProblem.{ArgumentProblem}
use Rattle.pam_findings.specs.declared.host.problem.ArgumentProblem.TheVariants.{NoToken}
use Rattle.pam_findings.specs.declared.host.problem.Problem.TheVariants as problems
use Rattle.pam_findings.specs.declared.host.problem.Spot.{Spot}

-- the module with a number may ask for a token
abbrev pub asks_for_at : Kind → Items → ℕ → Bool
asks_for_at kind items number = option_map_or (may_ask_for kind) (module_at number items) false

-- the marks of the modules that may
abbrev pub AreAsking : Kind → Items → List Bool → Type 0
AreAsking kind items marks = (number : ℕ) → 1 ≤ number → mark_of marks number ≡ asks_for_at kind items number

-- what is wrong with a word by which a module only takes a token, if none is asked for before
abbrev pub lacking_by : Kind → ModuleText → List ℕ → Option ArgumentProblem
lacking_by kind rule word = if takes kind rule word then Some NoToken else None

-- no run asks for a token before it asks this module, which only takes one, and is asked by some run
pub record Lacks (kind : Kind) (j : Judgement) (number : ℕ) (rule : ModuleText) : Type 0 where
  pub takes : only_takes kind rule ≡ true
  pub asked : Member number j.never_asked → ⊥
  pub none : NoneAsksBefore kind j number

-- S20 of the module with this number
pub record LacksAt (kind : Kind) (j : Judgement) (number : ℕ) (spot : Spot) : Type 0 where
  pub rule : ModuleText
  pub is_there : module_at number j.items ≡ Some rule
  pub lacks : Lacks kind j number rule
  pub of : OfFound (lacking_by kind rule) rule spot

-- S20 of a stack that is judged
pub record LacksIn (is_included : Bool) (kind : Kind) (j : Judgement) (spot : Spot) : Type 0 where
  pub alone : is_included ≡ false
  pub argument : ℕ
  pub problem_is : spot.problem ≡ problems.Argument argument NoToken
  pub has : TakesNone kind (Judged j) argument spot
