-- For private contracts and proofs alone: modules that store a new password after another module failed.
use Rattle.std.specs.Prelude.{◌≡◌, ℕ, ◌≤◌, Bool, true, false, List}
use Rattle.std.specs.Option.{option_map_or}
use Rattle.pam_conf.specs.Stack.{Items, module_at}
use Rattle.pam_conf.specs.declared.rule.Kind.{Kind}
use Rattle.pam_conf.specs.declared.rule.Kind.TheVariants.{Password}
use Rattle.pam_findings.specs.host.Storing.{FailsBefore, refuses, stores}
use Rattle.pam_findings.specs.host.Verdicts.{Judgement}
use Rattle.pam_findings.specs.host.inner.Looked.{OfModules}
use Rattle.pam_findings.specs.stack.inner.Marks.{mark_of}
use Rattle.pam_findings.specs.declared.host.problem.Problem.TheVariants as problems
use Rattle.pam_findings.specs.declared.host.problem.Spot.{Spot}
use Rattle.pam_findings.specs.declared.host.refusing.Refuser.{Refuser}

-- the module with a number may refuse a new password
abbrev pub refuses_at : Refuser → Items → ℕ → Bool
refuses_at by items number = option_map_or (refuses by) (module_at number items) false

-- the marks of the modules that may
abbrev pub AreRefusing : Refuser → Items → List Bool → Type 0
AreRefusing by items marks = (number : ℕ) → 1 ≤ number → mark_of marks number ≡ refuses_at by items number

-- the module with a number stores a new password
abbrev pub stores_at : Items → ℕ → Bool
stores_at items number = option_map_or stores (module_at number items) false

-- it does after one that refused it
pub record IsStored (by : Refuser) (j : Judgement) (number : ℕ) : Type 0 where
  pub stores : stores_at j.items number ≡ true
  pub fails : FailsBefore by j number

-- S21 of a stack that is judged
pub record StoredIn (kind : Kind) (j : Judgement) (spot : Spot) : Type 0 where
  pub password : kind ≡ Password
  pub by : Refuser
  pub of : OfModules (problems.StoredThoughRefused by) j.items (IsStored by j) spot
