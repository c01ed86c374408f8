-- For private contracts and proofs alone: rules of pam_faillock that count failures, and that no run asks after one.
use Rattle.std.specs.Prelude.{◌≡◌, ℕ, ◌≤◌, Bool, true, false, not, List}
use Rattle.pam_conf.specs.Stack.{Items, module_count}
use Rattle.pam_conf.specs.declared.rule.Kind.{Kind}
use Rattle.pam_conf.specs.declared.rule.Kind.TheVariants.{Auth}
use Rattle.pam_dispatch.specs.State.{success}
use Rattle.pam_paths.specs.Known.{may_answer}
use Rattle.pam_paths.specs.declared.knowledge.Known.{Known}
use Rattle.pam_text.specs.Members.{Member}
use Rattle.pam_findings.specs.host.Faillock.{NoneFailsBefore}
use Rattle.pam_findings.specs.host.Verdicts.{Judgement}
use Rattle.pam_findings.specs.host.inner.Halves.{HasTaskAt}
use Rattle.pam_findings.specs.host.inner.Looked.{OfModules}
use Rattle.pam_findings.specs.stack.inner.Marks.{mark_of}
use Rattle.pam_findings.specs.declared.host.problem.Problem.TheVariants as problems
use Rattle.pam_findings.specs.declared.host.problem.Spot.{Spot}

-- the marks of the modules that say who logs in
abbrev pub AreChecking : Items → Known → List Bool → Type 0
AreChecking items failing marks =
    (number : ℕ) → 1 ≤ number → number ≤ module_count items → mark_of marks number ≡ not (may_answer failing number success)

-- the module with a number counts failures, and is asked, but after no failure
pub record IsUncounted (j : Judgement) (number : ℕ) : Type 0 where
  pub counts : HasTaskAt j.items true number
  pub asked : Member number j.never_asked → ⊥
  pub none : NoneFailsBefore j number

-- S22 of a stack that is judged
pub record UncountedIn (is_included : Bool) (kind : Kind) (j : Judgement) (spot : Spot) : Type 0 where
  pub alone : is_included ≡ false
  pub auth : kind ≡ Auth
  pub of : OfModules problems.NoFailureCounted j.items (IsUncounted j) spot
