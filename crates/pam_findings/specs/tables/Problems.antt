-- The problems of tables, in the order in which they are listed.
use Rattle.std.specs.Prelude.{ℕ, ◌+◌}
use Rattle.std.specs.Ordering.{nat_cmp, ordering_then}
use Rattle.std.specs.declared.cmp.Ordering.{Ordering}
use Rattle.pam_released.specs.declared.tables.difference.TableDifference.{TableDifference}
use Rattle.pam_released.specs.declared.tables.difference.TableDifference.TheVariants.{ZeroMask, AccessNoLineFeed, LeadingBlank, BlankInToken, EmptySeparator}
use Rattle.pam_released.specs.declared.tables.difference.TableDifference.TheVariants.{MaskDigits, Loopback, TimeNoLineFeed, OddBytes, LongField, FinishMinute}
use Rattle.pam_tables.specs.declared.error.TableFault.{TableFault}
use Rattle.pam_tables.specs.declared.error.TableFault.TheVariants as faults
use Rattle.pam_tables.specs.declared.times.error.TimeFault.{TimeFault}
use Rattle.pam_tables.specs.declared.times.error.TimeFault.TheVariants as times
use Rattle.pam_findings.specs.declared.tables.problem.HostTable.{HostTable}
use Rattle.pam_findings.specs.declared.tables.problem.HostTable.TheVariants.{Groups, Access, Time}
use Rattle.pam_findings.specs.declared.tables.problem.TableFinding.{TableFinding}
use Rattle.pam_findings.specs.declared.tables.problem.TablePlace.{TablePlace}
use Rattle.pam_findings.specs.declared.tables.problem.TableProblem.{TableProblem}
use Rattle.pam_findings.specs.declared.tables.problem.TableProblem.TheVariants as problems

abbrev pub rank_of_table : HostTable → ℕ
rank_of_table Groups = 0
rank_of_table Access = 1
rank_of_table Time = 2

-- the number after `TE`
abbrev pub rank_of_fault : TableFault → ℕ
rank_of_fault faults.MissingField = 1
rank_of_fault faults.BadPermission = 2
rank_of_fault faults.Netgroup = 3
rank_of_fault faults.UserAtHost = 4
rank_of_fault faults.BadMask = 5
rank_of_fault faults.BadGroup = 9
rank_of_fault faults.NulByte = 10
rank_of_fault faults.Memory = 11
rank_of_fault faults.TableTooLong = 12
rank_of_fault faults.BadCode = 13
rank_of_fault faults.BadModule = 14

abbrev pub rank_of_time_fault : TimeFault → ℕ
rank_of_time_fault times.MissingField = 1
rank_of_time_fault times.Netgroup = 3
rank_of_time_fault times.BadTimes = 6
rank_of_time_fault times.TwoWildcards = 7
rank_of_time_fault times.BadLogic = 8
rank_of_time_fault times.NulByte = 10
rank_of_time_fault times.Memory = 11
rank_of_time_fault times.TooLong = 12

-- the number after `A`, and 10 more than the number after `T`
abbrev pub rank_of_difference : TableDifference → ℕ
rank_of_difference ZeroMask = 1
rank_of_difference AccessNoLineFeed = 2
rank_of_difference LeadingBlank = 3
rank_of_difference BlankInToken = 4
rank_of_difference EmptySeparator = 5
rank_of_difference MaskDigits = 6
rank_of_difference Loopback = 7
rank_of_difference TimeNoLineFeed = 11
rank_of_difference OddBytes = 12
rank_of_difference LongField = 13
rank_of_difference FinishMinute = 14

-- faults come first, and then differences. No table has faults of both kinds
abbrev pub rank_of : TableProblem → ℕ
rank_of (problems.Fault fault) = rank_of_fault fault
rank_of (problems.TimeFault fault) = 20 + rank_of_time_fault fault
rank_of (problems.Released difference) = 40 + rank_of_difference difference

-- THE PLACE of a problem at a line of a table
unfoldable pub place_of : TableFinding → TablePlace
place_of finding = record { table = rank_of_table finding.table; number = finding.number; line = finding.line; rank = rank_of finding.problem }

-- THE ORDER OF PLACES: by table; of access tables by number; in one table by line; and at one line by rank
abbrev pub compare_places : TablePlace → TablePlace → Ordering
compare_places one other =
    ordering_then (nat_cmp one.table other.table) (ordering_then (nat_cmp one.number other.number)
    (ordering_then (nat_cmp one.line other.line) (nat_cmp one.rank other.rank)))
