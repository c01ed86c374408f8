-- For private contracts and proofs alone: rules of pam_faillock with one of its tasks, where no run asks one with the other.
use Rattle.std.specs.Prelude.{◌≡◌, ℕ, Bool, true, false, not, List, Some}
use Rattle.std.specs.Option.{option_map_or}
use Rattle.pam_conf.specs.Stack.{Items, ModuleText, module_at}
use Rattle.pam_conf.specs.declared.rule.Kind.{Kind}
use Rattle.pam_conf.specs.declared.rule.Kind.TheVariants.{Auth}
use Rattle.pam_findings.specs.host.Faillock.{has_task}
use Rattle.pam_findings.specs.host.Verdicts.{Judgement}
use Rattle.pam_findings.specs.host.inner.Looked.{OfModules}
use Rattle.pam_findings.specs.declared.host.problem.Problem.TheVariants as problems
use Rattle.pam_findings.specs.declared.host.problem.Spot.{Spot}
use Rattle.pam_text.specs.Members.{Member}

-- the module with this number has the task
abbrev pub HasTaskAt : Items → Bool → ℕ → Type 0
HasTaskAt items counts number = option_map_or (has_task counts) (module_at number items) false ≡ true

-- no module of the stack with this task is asked, where those with these numbers are not
abbrev pub NoneIn : Items → List ℕ → Bool → Type 0
NoneIn items never_asked counts =
    (number : ℕ) (rule : ModuleText) → module_at number items ≡ Some rule → has_task counts rule ≡ true → Member number never_asked

-- S22 of a module with the task
pub record HalfIn (items : Items) (never_asked : List ℕ) (counts : Bool) (spot : Spot) : Type 0 where
  pub none : NoneIn items never_asked (not counts)
  pub of : OfModules (problems.NotCounted counts) items (HasTaskAt items counts) spot

-- S22 of a stack that is judged
pub record HalvesIn (kind : Kind) (j : Judgement) (spot : Spot) : Type 0 where
  pub auth : kind ≡ Auth
  pub counts : Bool
  pub half : HalfIn j.items j.never_asked counts spot
