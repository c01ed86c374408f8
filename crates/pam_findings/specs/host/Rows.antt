-- The rows of the findings of a host, each with its number, its name, its level, and what it means.
use Rattle.pam_codes.specs.declared.error.ControlError.{ControlError}
use Rattle.pam_codes.specs.declared.error.ControlError.TheVariants.{BadControl, BadValue, BadAction, ZeroJump, OpenBracket}
use Rattle.pam_conf.specs.declared.error.FaultKind.{FaultKind}
use Rattle.pam_conf.specs.declared.error.FaultKind.TheVariants as faults
use Rattle.pam_explain.specs.Explanation.{Explanation}
use Rattle.pam_explain.specs.Views.{row_view}
use Rattle.pam_explain.specs.declared.arguments.TheConstants as of_arguments
use Rattle.pam_explain.specs.declared.hosts.TheConstants as of_hosts
use Rattle.pam_explain.specs.declared.links.TheConstants as of_links
use Rattle.pam_explain.specs.declared.modules.TheConstants as of_modules
use Rattle.pam_explain.specs.declared.old_tables.TheConstants as of_old_tables
use Rattle.pam_explain.specs.declared.released.TheConstants as of_released
use Rattle.pam_explain.specs.declared.rules.TheConstants as of_rules
use Rattle.pam_explain.specs.declared.stacks.TheConstants as of_stacks
use Rattle.pam_released.specs.declared.difference.Difference.{Difference}
use Rattle.pam_released.specs.declared.difference.Difference.TheVariants as differences
use Rattle.pam_findings.specs.declared.host.problem.ArgumentProblem.{ArgumentProblem}
use Rattle.pam_findings.specs.declared.host.problem.ArgumentProblem.TheVariants as arguments
use Rattle.pam_findings.specs.declared.host.problem.Problem.{Problem}
use Rattle.pam_findings.specs.declared.host.problem.Problem.TheVariants as problems

-- E4 to E8
abbrev pub row_of_control : ControlError → Explanation
row_of_control BadControl = row_view of_rules.BAD_CONTROL
row_of_control BadValue = row_view of_rules.BAD_VALUE
row_of_control BadAction = row_view of_rules.BAD_ACTION
row_of_control ZeroJump = row_view of_rules.ZERO_JUMP
row_of_control OpenBracket = row_view of_rules.OPEN_BRACKET

-- E1 to E18
abbrev pub row_of_fault : FaultKind → Explanation
row_of_fault faults.NulByte = row_view of_rules.NUL_BYTE
row_of_fault faults.MissingField = row_view of_rules.MISSING_FIELD
row_of_fault faults.BadKind = row_view of_rules.BAD_KIND
row_of_fault (faults.Control error) = row_of_control error
row_of_fault faults.MissingTarget = row_view of_stacks.MISSING_TARGET
row_of_fault faults.BadTarget = row_view of_stacks.BAD_TARGET
row_of_fault faults.Cycle = row_view of_stacks.CYCLE
row_of_fault faults.TooDeep = row_view of_stacks.TOO_DEEP
row_of_fault faults.TooManyModules = row_view of_stacks.TOO_MANY_MODULES
row_of_fault faults.IncludeInSingleFile = row_view of_stacks.INCLUDE_IN_SINGLE_FILE
row_of_fault faults.NoService = row_view of_stacks.NO_SERVICE
row_of_fault faults.FileTooLong = row_view of_stacks.FILE_TOO_LONG
row_of_fault faults.Memory = row_view of_stacks.MEMORY
row_of_fault faults.TooManyFollowed = row_view of_stacks.TOO_MANY_FOLLOWED

-- L1 to L9
abbrev pub row_of_difference : Difference → Explanation
row_of_difference differences.CarriageReturn = row_view of_released.CARRIAGE_RETURN
row_of_difference differences.ContinuedOverBlank = row_view of_released.CONTINUED_OVER_BLANK
row_of_difference differences.BackslashBlank = row_view of_released.BACKSLASH_BLANK
row_of_difference differences.BackslashComment = row_view of_released.BACKSLASH_COMMENT
row_of_difference differences.EndsInContinuation = row_view of_released.ENDS_IN_CONTINUATION
row_of_difference differences.CapitalInBrackets = row_view of_released.CAPITAL_IN_BRACKETS
row_of_difference differences.LongLine = row_view of_released.LONG_LINE
row_of_difference differences.EmptyModuleName = row_view of_released.EMPTY_MODULE_NAME
row_of_difference differences.DroppedBlank = row_view of_released.DROPPED_BLANK

abbrev pub row_of_argument : ArgumentProblem → Explanation
row_of_argument (arguments.Unknown reaction) = row_view of_arguments.UNKNOWN_ARGUMENT
row_of_argument arguments.Longer = row_view of_arguments.LONGER_WORD
row_of_argument arguments.OtherKind = row_view of_arguments.ARGUMENT_OF_OTHER_KIND
row_of_argument arguments.BadValue = row_view of_arguments.BAD_VALUE
row_of_argument arguments.NoToken = row_view of_arguments.NO_TOKEN
row_of_argument arguments.Weak = row_view of_arguments.WEAK_HASH
row_of_argument (arguments.MissingFile absence) = row_view of_arguments.MISSING_FILE

-- THE ROW of a problem
abbrev pub row_of : Problem → Explanation
row_of (problems.Fault fault) = row_of_fault fault
row_of (problems.Walk fault) = row_of_fault fault
row_of (problems.Released difference) = row_of_difference difference
row_of (problems.IncludedFromVendor is_at_include) = row_view of_released.INCLUDED_FROM_VENDOR
row_of problems.EmptySeparator = row_view of_old_tables.EMPTY_SEPARATOR
row_of (problems.LetsNobodyIn service kind) = row_view of_hosts.LETS_NOBODY_IN
row_of (problems.LetsAnybodyIn service is_greeter) = row_view of_hosts.LETS_ANYBODY_IN
row_of problems.NeverAsked = row_view of_hosts.NEVER_ASKED
row_of problems.JumpPastEnd = row_view of_hosts.JUMP_PAST_END
row_of (problems.NoModule is_dashed) = row_view of_hosts.NO_MODULE
row_of problems.NoOther = row_view of_hosts.NO_OTHER
row_of problems.UnreachableName = row_view of_hosts.UNREACHABLE_NAME
row_of (problems.TooLarge service kind) = row_view of_hosts.TOO_LARGE
row_of (problems.OtherAnswers service kind has_no_rule lets_nobody_in) = row_view of_hosts.OTHER_ANSWERS
row_of problems.LeftOver = row_view of_hosts.LEFT_OVER
row_of problems.JumpIntoInclude = row_view of_hosts.JUMP_INTO_INCLUDE
row_of problems.NoFunction = row_view of_hosts.NO_FUNCTION
row_of (problems.CallerIsRoot is_daemon) = row_view of_hosts.CALLER_IS_ROOT
row_of (problems.Argument argument wrong) = row_of_argument wrong
row_of (problems.BadArguments lack) = row_view of_arguments.BAD_ARGUMENTS
row_of (problems.StoredThoughRefused by) = row_view of_arguments.STORED_THOUGH_REFUSED
row_of (problems.NotCounted counts) = row_view of_arguments.NOT_COUNTED
row_of problems.NoFailureCounted = row_view of_arguments.NOT_COUNTED
row_of problems.UnknownModule = row_view of_modules.UNKNOWN_MODULE
row_of problems.SuccessNeverCounts = row_view of_modules.SUCCESS_NEVER_COUNTS
row_of problems.LinkOutside = row_view of_links.LINK_OUTSIDE
