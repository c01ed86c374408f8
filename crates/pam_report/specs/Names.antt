-- The names of kinds, and the stacks that problems are about.
use Rattle.std.specs.Prelude.{ℕ, List, codes, Option, Some, None}
use Rattle.pam_conf.specs.declared.rule.Kind.{Kind}
use Rattle.pam_conf.specs.declared.rule.Kind.TheVariants.{Auth, Account, Password, Session}
use Rattle.pam_findings.specs.declared.host.problem.Problem.{Problem}
use Rattle.pam_findings.specs.declared.host.problem.Problem.TheVariants as problems

abbrev pub kind_name : Kind → List ℕ
kind_name Auth = codes "auth"
kind_name Account = codes "account"
kind_name Password = codes "password"
kind_name Session = codes "session"

-- the kind of a problem of a whole stack, and its service, unless a file is the cause
abbrev pub stack_of : Problem → Option (Option ℕ × Kind)
stack_of (problems.LetsNobodyIn service kind) = Some (service, kind)
stack_of (problems.LetsAnybodyIn service is_greeter) = Some (service, Auth)
stack_of (problems.TooLarge service kind) = Some (Some service, kind)
stack_of (problems.OtherAnswers service kind has_no_rule lets_nobody_in) = Some (Some service, kind)
stack_of problem = None
