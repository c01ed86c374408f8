-- The rows of the problems of tables, each with its number, its name, its level, and what it means.
use Rattle.pam_explain.specs.Explanation.{Explanation}
use Rattle.pam_explain.specs.Views.{row_view}
use Rattle.pam_explain.specs.declared.old_tables.TheConstants as of_old_tables
use Rattle.pam_explain.specs.declared.own_files.TheConstants as of_own_files
use Rattle.pam_explain.specs.declared.tables.TheConstants as of_tables
use Rattle.pam_released.specs.declared.tables.difference.TableDifference.{TableDifference}
use Rattle.pam_released.specs.declared.tables.difference.TableDifference.TheVariants as differences
use Rattle.pam_tables.specs.declared.error.TableFault.{TableFault}
use Rattle.pam_tables.specs.declared.error.TableFault.TheVariants as faults
use Rattle.pam_tables.specs.declared.times.error.TimeFault.{TimeFault}
use Rattle.pam_tables.specs.declared.times.error.TimeFault.TheVariants as times
use Rattle.pam_findings.specs.declared.tables.problem.TableProblem.{TableProblem}
use Rattle.pam_findings.specs.declared.tables.problem.TableProblem.TheVariants as problems

-- TE1 to TE5, and TE9 to TE14
abbrev pub row_of_fault : TableFault → Explanation
row_of_fault faults.MissingField = row_view of_tables.MISSING_FIELD
row_of_fault faults.BadPermission = row_view of_tables.BAD_PERMISSION
row_of_fault faults.Netgroup = row_view of_tables.NETGROUP
row_of_fault faults.UserAtHost = row_view of_tables.USER_AT_HOST
row_of_fault faults.BadMask = row_view of_tables.BAD_MASK
row_of_fault faults.BadGroup = row_view of_tables.BAD_GROUP
row_of_fault faults.NulByte = row_view of_tables.NUL_BYTE
row_of_fault faults.Memory = row_view of_tables.MEMORY
row_of_fault faults.TableTooLong = row_view of_tables.TABLE_TOO_LONG
row_of_fault faults.BadCode = row_view of_own_files.BAD_CODE
row_of_fault faults.BadModule = row_view of_own_files.BAD_MODULE

-- TE1, TE3, TE6 to TE8, and TE10 to TE12
abbrev pub row_of_time_fault : TimeFault → Explanation
row_of_time_fault times.MissingField = row_view of_tables.MISSING_FIELD
row_of_time_fault times.Netgroup = row_view of_tables.NETGROUP
row_of_time_fault times.BadTimes = row_view of_tables.BAD_TIMES
row_of_time_fault times.TwoWildcards = row_view of_tables.TWO_WILDCARDS
row_of_time_fault times.BadLogic = row_view of_tables.BAD_LOGIC
row_of_time_fault times.NulByte = row_view of_tables.NUL_BYTE
row_of_time_fault times.Memory = row_view of_tables.MEMORY
row_of_time_fault times.TooLong = row_view of_tables.TABLE_TOO_LONG

-- A1 to A7, and T1 to T4
abbrev pub row_of_difference : TableDifference → Explanation
row_of_difference differences.ZeroMask = row_view of_old_tables.ZERO_MASK
row_of_difference differences.AccessNoLineFeed = row_view of_old_tables.NO_LINE_FEED_IN_ACCESS_TABLE
row_of_difference differences.LeadingBlank = row_view of_old_tables.LEADING_BLANK
row_of_difference differences.BlankInToken = row_view of_old_tables.BLANK_IN_TOKEN
row_of_difference differences.EmptySeparator = row_view of_old_tables.EMPTY_SEPARATOR
row_of_difference differences.MaskDigits = row_view of_old_tables.MASK_DIGITS
row_of_difference differences.Loopback = row_view of_old_tables.LOOPBACK
row_of_difference differences.TimeNoLineFeed = row_view of_old_tables.NO_LINE_FEED_IN_TIME_TABLE
row_of_difference differences.OddBytes = row_view of_old_tables.ODD_BYTES
row_of_difference differences.LongField = row_view of_old_tables.LONG_FIELD
row_of_difference differences.FinishMinute = row_view of_old_tables.FINISH_MINUTE

-- THE ROW of a problem of a table
abbrev pub row_of : TableProblem → Explanation
row_of (problems.Fault fault) = row_of_fault fault
row_of (problems.TimeFault fault) = row_of_time_fault fault
row_of (problems.Released difference) = row_of_difference difference
