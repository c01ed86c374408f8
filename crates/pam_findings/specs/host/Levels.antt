-- How grave the findings of a host are: as their rows say, unless a finding itself tells more.
use Rattle.std.specs.Prelude.{◌||◌, if◌then◌else◌}
use Rattle.pam_explain.specs.declared.explanation.Level.{Level}
use Rattle.pam_explain.specs.declared.explanation.Level.TheVariants.{Note, Warning}
use Rattle.pam_facts.specs.declared.arguments.verdict.Reaction.TheVariants.{Ignores}
use Rattle.pam_findings.specs.declared.host.problem.ArgumentProblem.{ArgumentProblem}
use Rattle.pam_findings.specs.declared.host.problem.ArgumentProblem.TheVariants as arguments
use Rattle.pam_findings.specs.declared.host.problem.Problem.{Problem}
use Rattle.pam_findings.specs.declared.host.problem.Problem.TheVariants as problems
use Rattle.pam_findings.specs.host.Rows.{row_of, row_of_argument}

-- a module that ignores a word without saying so works as it would without the word
abbrev pub level_of_argument : ArgumentProblem → Level
level_of_argument (arguments.Unknown Ignores) = Note
level_of_argument wrong = (row_of_argument wrong).level

-- Debian's Linux-PAM refuses the whole configuration where an `@include` has no file, and makes another rule without one fail. A dash
-- before the kind of a rule says that its module may not be there. A daemon asks on behalf of whoever comes, and a greeter for its own
-- user. Where `other` lets somebody in, a service may leave one of its kinds to it on purpose
abbrev pub level_by : Problem → Level → Level
level_by (problems.IncludedFromVendor is_at_include) usual = if is_at_include then usual else Warning
level_by (problems.LetsAnybodyIn service is_greeter) usual = if is_greeter then Note else usual
level_by (problems.NoModule is_dashed) usual = if is_dashed then Note else usual
level_by (problems.OtherAnswers service kind has_no_rule lets_nobody_in) usual = if has_no_rule || lets_nobody_in then usual else Note
level_by (problems.CallerIsRoot is_daemon) usual = if is_daemon then usual else Note
level_by (problems.Argument argument wrong) usual = level_of_argument wrong
level_by problem usual = usual

-- THE LEVEL of a problem
abbrev pub level_of : Problem → Level
level_of problem = level_by problem (row_of problem).level
