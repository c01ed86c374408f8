-- For private contracts and proofs alone: the stacks that a service leaves to `other`.
use Rattle.std.specs.Prelude.{◌≡◌, ℕ, Bool, List, Option, Some, None}
use Rattle.pam_conf.specs.Files.{Folder}
use Rattle.pam_conf.specs.declared.rule.Kind.{Kind}
use Rattle.pam_findings.specs.host.OtherAnswers.{OtherAnswers, has_no_rule}
use Rattle.pam_findings.specs.declared.host.judging.Stacked.{Stacked}
use Rattle.pam_findings.specs.declared.host.problem.Problem.TheVariants as problems
use Rattle.pam_findings.specs.declared.host.problem.Spot.{Spot}

-- whether `other` answers, and then whether the service's file has no rule
abbrev pub SaysLeft : Folder → List ℕ → Kind → Option Bool → Type 0
SaysLeft folder name kind None = OtherAnswers folder name kind → ⊥
SaysLeft folder name kind (Some none) = OtherAnswers folder name kind × (none ≡ has_no_rule folder name)

-- S10, as these say
abbrev pub IsLeft : Stacked → Option Bool → Bool → Spot → Type 0
IsLeft at None nobody spot = ⊥
IsLeft at (Some none) nobody spot = spot ≡ record { file = at.home; line = 0; problem = problems.OtherAnswers at.service at.kind none nobody }
