-- What `check` says of each problem of a table: what is wrong, and how to mend it.
use Rattle.std.specs.Prelude.{ℕ, List, ◌++◌, codes}
use Rattle.pam_released.specs.tables.Meanings.{meaning_of, mending_of}
use Rattle.pam_released.specs.declared.tables.difference.TableDifference.{TableDifference}
use Rattle.pam_findings.specs.declared.tables.problem.TableProblem.{TableProblem}
use Rattle.pam_findings.specs.declared.tables.problem.TableProblem.TheVariants as wrong
use Rattle.pam_tables.specs.declared.error.TableFault.{TableFault}
use Rattle.pam_tables.specs.declared.error.TableFault.TheVariants as tables
use Rattle.pam_tables.specs.declared.times.error.TimeFault.{TimeFault}
use Rattle.pam_tables.specs.declared.times.error.TimeFault.TheVariants as times

-- of a group file or an access table
unfoldable pub table_fault_sentence : TableFault → List ℕ
table_fault_sentence tables.MissingField = codes "the line ends too early; a rule has a permission, users and origins, between :"
table_fault_sentence tables.BadPermission = codes "the permission is neither + nor -; write one of them"
table_fault_sentence tables.Netgroup = codes "a netgroup, which is not looked up here; name the users or hosts"
table_fault_sentence tables.UserAtHost = codes "a user at a host, which is not looked up here; name the user, and the host among the origins"
table_fault_sentence tables.BadMask = codes "the mask is neither a number of bits nor an address of the same family; write one of them"
table_fault_sentence tables.BadGroup = codes "the line is not name, password, number and members; write these four, and three : between them"
table_fault_sentence tables.NulByte = codes "the table has a NUL byte; remove it"
table_fault_sentence tables.Memory = codes "an allocation failed"
table_fault_sentence tables.TableTooLong = codes "the table is longer than 1,048,576 bytes; shorten it"
table_fault_sentence tables.BadCode = codes "a word is no return code; write one as success"
table_fault_sentence tables.BadModule = codes "the name of a module has a slash; write it without folder"

-- of a time table
unfoldable pub time_fault_sentence : TimeFault → List ℕ
time_fault_sentence times.MissingField = codes "the line lacks a field; a rule has services, terminals, users and times, between ;"
time_fault_sentence times.Netgroup = codes "a netgroup, which is not looked up here; name the users"
time_fault_sentence times.BadTimes = codes "the times are not days and a range; write them as MoTuWeThFr0800-1800"
time_fault_sentence times.TwoWildcards = codes "a name has more than one *; leave one"
time_fault_sentence times.BadLogic = codes "the field is not a list of names; write one & or | between two names, and at most one ! before each"
time_fault_sentence times.NulByte = codes "the table has a NUL byte; remove it"
time_fault_sentence times.Memory = codes "an allocation failed"
time_fault_sentence times.TooLong = codes "the table is longer than 1,048,576 bytes; shorten it"

-- where released Linux-PAM reads a table otherwise
abbrev pub table_difference_sentence : TableDifference → List ℕ
table_difference_sentence difference = meaning_of difference ++ codes "; " ++ mending_of difference

-- of a problem of a table
abbrev pub table_sentence : TableProblem → List ℕ
table_sentence (wrong.Fault fault) = table_fault_sentence fault
table_sentence (wrong.TimeFault fault) = time_fault_sentence fault
table_sentence (wrong.Released difference) = table_difference_sentence difference
