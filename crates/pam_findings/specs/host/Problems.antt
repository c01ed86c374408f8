-- The problems of a host, in the order in which they are listed.
use Rattle.std.specs.Prelude.{ℕ, ◌+◌, ◌*◌, Bool, if◌then◌else◌, is_some, Option, unwrap_or}
use Rattle.std.specs.Option.{option_cmp}
use Rattle.std.specs.Ordering.{nat_cmp, ordering_then}
use Rattle.std.specs.declared.cmp.Ordering.{Ordering}
use Rattle.pam_facts.specs.declared.arguments.lacks.Lack.{Lack}
use Rattle.pam_facts.specs.declared.arguments.lacks.Lack.TheVariants as lacks
use Rattle.pam_facts.specs.declared.arguments.verdict.Reaction.{Reaction}
use Rattle.pam_facts.specs.declared.arguments.verdict.Reaction.TheVariants.{Fails, Ignores, Logs}
use Rattle.pam_codes.specs.declared.error.ControlError.{ControlError}
use Rattle.pam_codes.specs.declared.error.ControlError.TheVariants.{BadControl, BadValue, BadAction, ZeroJump, OpenBracket}
use Rattle.pam_conf.specs.declared.error.FaultKind.{FaultKind}
use Rattle.pam_conf.specs.declared.error.FaultKind.TheVariants as faults
use Rattle.pam_conf.specs.declared.rule.Kind.{Kind}
use Rattle.pam_conf.specs.declared.rule.Kind.TheVariants.{Auth, Account, Password, Session}
use Rattle.pam_released.specs.Findings.{number_of}
use Rattle.pam_findings.specs.declared.host.missing_files.Absence.{Absence}
use Rattle.pam_findings.specs.declared.host.missing_files.Absence.TheVariants as absences
use Rattle.pam_findings.specs.declared.host.problem.ArgumentProblem.{ArgumentProblem}
use Rattle.pam_findings.specs.declared.host.problem.ArgumentProblem.TheVariants as arguments
use Rattle.pam_findings.specs.declared.host.problem.Place.{Place}
use Rattle.pam_findings.specs.declared.host.problem.Problem.{Problem}
use Rattle.pam_findings.specs.declared.host.problem.Problem.TheVariants as problems
use Rattle.pam_findings.specs.declared.host.problem.Spot.{Spot}
use Rattle.pam_findings.specs.declared.host.refusing.Refuser.{Refuser}
use Rattle.pam_findings.specs.declared.host.refusing.Refuser.TheVariants as refusers

abbrev pub rank_of_control : ControlError → ℕ
rank_of_control BadControl = 4
rank_of_control BadValue = 5
rank_of_control BadAction = 6
rank_of_control ZeroJump = 7
rank_of_control OpenBracket = 8

-- the number after `E`
abbrev pub rank_of_fault : FaultKind → ℕ
rank_of_fault faults.NulByte = 1
rank_of_fault faults.MissingField = 2
rank_of_fault faults.BadKind = 3
rank_of_fault (faults.Control error) = rank_of_control error
rank_of_fault faults.MissingTarget = 9
rank_of_fault faults.BadTarget = 10
rank_of_fault faults.Cycle = 11
rank_of_fault faults.TooDeep = 12
rank_of_fault faults.TooManyModules = 13
rank_of_fault faults.IncludeInSingleFile = 14
rank_of_fault faults.NoService = 15
rank_of_fault faults.FileTooLong = 16
rank_of_fault faults.Memory = 17
rank_of_fault faults.TooManyFollowed = 18

abbrev pub rank_of_argument : ArgumentProblem → ℕ
rank_of_argument (arguments.Unknown reaction) = 75
rank_of_argument arguments.Longer = 76
rank_of_argument arguments.OtherKind = 77
rank_of_argument arguments.BadValue = 78
rank_of_argument arguments.NoToken = 80
rank_of_argument arguments.Weak = 83
rank_of_argument (arguments.MissingFile absence) = 84

-- E1 to E18 of lines come first, then those of walks, then L1 to L10, A5, and S1 to S27
abbrev pub rank_of : Problem → ℕ
rank_of (problems.Fault fault) = rank_of_fault fault
rank_of (problems.Walk fault) = 20 + rank_of_fault fault
rank_of (problems.Released difference) = 40 + number_of difference
rank_of (problems.IncludedFromVendor is_at_include) = 50
rank_of problems.EmptySeparator = 55
rank_of (problems.LetsNobodyIn service kind) = 61
rank_of (problems.LetsAnybodyIn service is_greeter) = 62
rank_of problems.NeverAsked = 63
rank_of problems.JumpPastEnd = 64
rank_of (problems.NoModule is_dashed) = 65
rank_of problems.NoOther = 66
rank_of problems.UnreachableName = 67
rank_of (problems.TooLarge service kind) = 69
rank_of (problems.OtherAnswers service kind has_no_rule lets_nobody_in) = 70
rank_of problems.LeftOver = 71
rank_of problems.JumpIntoInclude = 72
rank_of problems.NoFunction = 73
rank_of (problems.CallerIsRoot is_daemon) = 74
rank_of (problems.Argument argument wrong) = rank_of_argument wrong
rank_of (problems.BadArguments lack) = 79
rank_of (problems.StoredThoughRefused by) = 81
rank_of (problems.NotCounted counts) = 82
rank_of problems.NoFailureCounted = 82
rank_of problems.UnknownModule = 85
rank_of problems.SuccessNeverCounts = 86
rank_of problems.LinkOutside = 87

abbrev pub number_of_kind : Kind → ℕ
number_of_kind Auth = 0
number_of_kind Account = 1
number_of_kind Password = 2
number_of_kind Session = 3

-- the number of a kind for which `other` answers, of why it does, and of whether it lets nobody in
abbrev pub number_of_answer : Kind → Bool → Bool → ℕ
number_of_answer kind has_no_rule lets_nobody_in =
    4 * number_of_kind kind + (if has_no_rule then 2 else 0) + (if lets_nobody_in then 1 else 0)

-- the number of a kind for which nobody is let in, and of whether a service is named
abbrev pub number_of_nobody : Option ℕ → Kind → ℕ
number_of_nobody service kind = number_of_kind kind + (if is_some service then 4 else 0)

-- the number of whether greeters let anybody in, and of whether a service is named
abbrev pub number_of_anybody : Option ℕ → Bool → ℕ
number_of_anybody service is_greeter = (if is_greeter then 1 else 0) + (if is_some service then 2 else 0)

abbrev pub number_of_reaction : Reaction → ℕ
number_of_reaction Ignores = 0
number_of_reaction Logs = 1
number_of_reaction Fails = 2

abbrev pub number_of_absence : Absence → ℕ
number_of_absence absences.Fails = 0
number_of_absence absences.Passes = 1

-- what the module does, where it does not know an argument, or the file of one is not there
abbrev pub reaction_of : ArgumentProblem → ℕ
reaction_of (arguments.Unknown reaction) = number_of_reaction reaction
reaction_of (arguments.MissingFile absence) = number_of_absence absence
reaction_of wrong = 0

abbrev pub number_of_lack : Lack → ℕ
number_of_lack lacks.Program = 0
number_of_lack lacks.List = 1
number_of_lack lacks.Database = 2
number_of_lack lacks.UserType = 3
number_of_lack lacks.Condition = 4

abbrev pub number_of_refuser : Refuser → ℕ
number_of_refuser refusers.Cracklib = 0
number_of_refuser refusers.Passwdqc = 1
number_of_refuser refusers.Pwhistory = 2
number_of_refuser refusers.Pwquality = 3

-- the service of a problem that names one, and the position of an argument
abbrev pub service_of : Problem → ℕ
service_of (problems.LetsNobodyIn service kind) = unwrap_or service 0
service_of (problems.LetsAnybodyIn service is_greeter) = unwrap_or service 0
service_of (problems.TooLarge service kind) = service
service_of (problems.OtherAnswers service kind has_no_rule lets_nobody_in) = service
service_of (problems.Argument argument wrong) = argument
service_of problem = 0

-- the number of its kind, in S10 with what tells of `other`; L10 of an `@include` has another one than that of a rule with a kind, S1 and
-- S2 with a service than those without, S2 of a greeter than that of another service, S5 of a dashed rule than that of a rule without a
-- dash, S14 of a daemon than that of another service, S22 of a rule that counts than that of another, and of one that counts after no
-- failure, S15 and S24 have one for what the module
-- does, S19 one for what is lacking, and S21 one for the module that refuses
abbrev pub kind_of : Problem → ℕ
kind_of (problems.LetsNobodyIn service kind) = number_of_nobody service kind
kind_of (problems.LetsAnybodyIn service is_greeter) = number_of_anybody service is_greeter
kind_of (problems.TooLarge service kind) = number_of_kind kind
kind_of (problems.OtherAnswers service kind has_no_rule lets_nobody_in) = number_of_answer kind has_no_rule lets_nobody_in
kind_of (problems.IncludedFromVendor is_at_include) = if is_at_include then 1 else 0
kind_of (problems.NoModule is_dashed) = if is_dashed then 1 else 0
kind_of (problems.CallerIsRoot is_daemon) = if is_daemon then 1 else 0
kind_of (problems.StoredThoughRefused by) = number_of_refuser by
kind_of (problems.NotCounted counts) = if counts then 1 else 0
kind_of problems.NoFailureCounted = 2
kind_of (problems.Argument argument wrong) = reaction_of wrong
kind_of (problems.BadArguments lack) = number_of_lack lack
kind_of problem = 0

-- THE PLACE of a problem at a line of a file
unfoldable pub place_of : Spot → Place
place_of spot = record {
  file = spot.file;
  line = spot.line;
  rank = rank_of spot.problem;
  service = service_of spot.problem;
  kind = kind_of spot.problem;
}

-- THE ORDER OF PLACES: by file, where the configuration as a whole comes first; in one file by line; at one line by rank; and at one
-- rank by service, and then by kind
abbrev pub compare_places : Place → Place → Ordering
compare_places one other =
    ordering_then (option_cmp nat_cmp one.file other.file) (ordering_then (nat_cmp one.line other.line) (ordering_then (nat_cmp one.rank other.rank)
    (ordering_then (nat_cmp one.service other.service) (nat_cmp one.kind other.kind))))
