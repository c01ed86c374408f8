-- The places of problems: their order, and that two problems have two places.
use Rattle.std.proofs.Common.{◌≡◌, ℕ, ◌+◌, ◌-◌, nat_lt, if◌then◌else◌, [], ◌∷◌, refl, sym, ◌∙◌, ap, slice_index_or, nat_cmp}
use Rattle.std.specs.Cmp.{IsTotalOrder}
use Rattle.std.specs.Ordering.{ordering_then}
use Rattle.std.specs.declared.cmp.Ordering.{Ordering}
use Rattle.std.proofs.lemmas.Cmp.{nat_cmp_total, on_total, then_total}
use Rattle.std.proofs.lemmas.Map.Lookups.{CmpEqualImpliesEq, exact_pairs, exact_unsigned}
use Rattle.pam_released.specs.declared.tables.difference.TableDifference.{TableDifference}
use Rattle.pam_released.specs.declared.tables.difference.TableDifference.TheVariants.{ZeroMask, AccessNoLineFeed, LeadingBlank, BlankInToken, EmptySeparator}
use Rattle.pam_released.specs.declared.tables.difference.TableDifference.TheVariants.{MaskDigits, Loopback, TimeNoLineFeed, OddBytes, LongField, FinishMinute}
use Rattle.pam_tables.specs.declared.error.TableFault.{TableFault}
use Rattle.pam_tables.specs.declared.error.TableFault.TheVariants as faults
use Rattle.pam_tables.specs.declared.times.error.TimeFault.{TimeFault}
use Rattle.pam_tables.specs.declared.times.error.TimeFault.TheVariants as times
use Rattle.pam_findings.specs.tables.Problems.{compare_places, place_of, rank_of, rank_of_difference, rank_of_fault, rank_of_table, rank_of_time_fault}
use Rattle.pam_findings.specs.declared.tables.problem.HostTable.{HostTable}
use Rattle.pam_findings.specs.declared.tables.problem.HostTable.TheVariants.{Groups, Access, Time}
use Rattle.pam_findings.specs.declared.tables.problem.TableFinding.{TableFinding}
use Rattle.pam_findings.specs.declared.tables.problem.TablePlace.{TablePlace}
use Rattle.pam_findings.specs.declared.tables.problem.TableProblem.{TableProblem}
use Rattle.pam_findings.specs.declared.tables.problem.TableProblem.TheVariants as problems

-- FROM A PLACE TO ITS PROBLEM

table_numbered : ℕ → HostTable
table_numbered n = slice_index_or (Groups ∷ Access ∷ Time ∷ []) n Groups

of_table : (table : HostTable) → table_numbered (rank_of_table table) ≡ table
unfolding table_numbered
of_table Groups = refl
of_table Access = refl
of_table Time = refl

abbrev fault_numbered : ℕ → TableFault
fault_numbered n = slice_index_or (faults.Memory ∷ faults.MissingField ∷ faults.BadPermission ∷ faults.Netgroup ∷ faults.UserAtHost ∷ faults.BadMask
    ∷ faults.Memory ∷ faults.Memory ∷ faults.Memory ∷ faults.BadGroup ∷ faults.NulByte ∷ faults.Memory ∷ faults.TableTooLong ∷ faults.BadCode
    ∷ faults.BadModule ∷ []) n faults.Memory

abbrev time_fault_numbered : ℕ → TimeFault
time_fault_numbered n = slice_index_or (times.Memory ∷ times.MissingField ∷ times.Memory ∷ times.Netgroup ∷ times.Memory ∷ times.Memory ∷ times.BadTimes
    ∷ times.TwoWildcards ∷ times.BadLogic ∷ times.Memory ∷ times.NulByte ∷ times.Memory ∷ times.TooLong ∷ []) n times.Memory

abbrev difference_numbered : ℕ → TableDifference
difference_numbered n = slice_index_or (ZeroMask ∷ ZeroMask ∷ AccessNoLineFeed ∷ LeadingBlank ∷ BlankInToken ∷ EmptySeparator ∷ MaskDigits ∷ Loopback
    ∷ ZeroMask ∷ ZeroMask ∷ ZeroMask ∷ TimeNoLineFeed ∷ OddBytes ∷ LongField ∷ FinishMinute ∷ []) n ZeroMask

problem_of : ℕ → TableProblem
problem_of rank =
    if nat_lt rank 20 then problems.Fault (fault_numbered rank)
    else if nat_lt rank 40 then problems.TimeFault (time_fault_numbered (rank - 20))
    else problems.Released (difference_numbered (rank - 40))

of_fault : (fault : TableFault) → problem_of (rank_of_fault fault) ≡ problems.Fault fault
unfolding problem_of
of_fault faults.MissingField = refl
of_fault faults.BadPermission = refl
of_fault faults.Netgroup = refl
of_fault faults.UserAtHost = refl
of_fault faults.BadMask = refl
of_fault faults.BadGroup = refl
of_fault faults.NulByte = refl
of_fault faults.Memory = refl
of_fault faults.TableTooLong = refl
of_fault faults.BadCode = refl
of_fault faults.BadModule = refl

of_time_fault : (fault : TimeFault) → problem_of (20 + rank_of_time_fault fault) ≡ problems.TimeFault fault
unfolding problem_of
of_time_fault times.MissingField = refl
of_time_fault times.Netgroup = refl
of_time_fault times.BadTimes = refl
of_time_fault times.TwoWildcards = refl
of_time_fault times.BadLogic = refl
of_time_fault times.NulByte = refl
of_time_fault times.Memory = refl
of_time_fault times.TooLong = refl

of_difference : (difference : TableDifference) → problem_of (40 + rank_of_difference difference) ≡ problems.Released difference
unfolding problem_of
of_difference ZeroMask = refl
of_difference AccessNoLineFeed = refl
of_difference LeadingBlank = refl
of_difference BlankInToken = refl
of_difference EmptySeparator = refl
of_difference MaskDigits = refl
of_difference Loopback = refl
of_difference TimeNoLineFeed = refl
of_difference OddBytes = refl
of_difference LongField = refl
of_difference FinishMinute = refl

of_problem : (problem : TableProblem) → problem_of (rank_of problem) ≡ problem
of_problem (problems.Fault fault) = of_fault fault
of_problem (problems.TimeFault fault) = of_time_fault fault
of_problem (problems.Released difference) = of_difference difference

abbrev finding_with : HostTable → ℕ → ℕ → TableProblem → TableFinding
finding_with table number line problem = record { table = table; number = number; line = line; problem = problem }

abbrev place_with : ℕ → ℕ → ℕ → ℕ → TablePlace
place_with table number line rank = record { table = table; number = number; line = line; rank = rank }

-- TWO PROBLEMS HAVE TWO PLACES
pub finding-from_place : (one other : TableFinding) → place_of one ≡ place_of other → one ≡ other
unfolding place_of
finding-from_place one other h =
    let table : one.table ≡ other.table =
    sym (of_table one.table) ∙ ap (λ (p : TablePlace). table_numbered p.table) h ∙ of_table other.table in
    let number : one.number ≡ other.number = ap (λ (p : TablePlace). p.number) h in
    let line : one.line ≡ other.line = ap (λ (p : TablePlace). p.line) h in
    let problem : one.problem ≡ other.problem =
    sym (of_problem one.problem) ∙ ap (λ (p : TablePlace). problem_of p.rank) h ∙ of_problem other.problem in
    ap (λ (x : HostTable). finding_with x one.number one.line one.problem) table
    ∙ ap (λ (x : ℕ). finding_with other.table x one.line one.problem) number
    ∙ ap (λ (x : ℕ). finding_with other.table other.number x one.problem) line
    ∙ ap (λ (x : TableProblem). finding_with other.table other.number other.line x) problem

-- the same of a place by its parts
pub apart-by-parts : (one other : TableFinding) (table rank : ℕ) → table ≡ rank_of_table one.table → rank ≡ rank_of one.problem →
    place_of other ≡ record { table = table; number = one.number; line = one.line; rank = rank } → other ≡ one
unfolding place_of
apart-by-parts one other table rank table_is rank_is same =
    finding-from_place other one
    (same
    ∙ ap (λ (x : ℕ). place_with x one.number one.line rank) table_is
    ∙ ap (λ (x : ℕ). place_with (rank_of_table one.table) one.number one.line x) rank_is)

-- THE ORDER OF PLACES

line_cmp : (x y : ℕ × (ℕ × ℕ)) → Ordering
line_cmp x y = ordering_then (nat_cmp x.0 y.0) (ordering_then (nat_cmp x.1.0 y.1.0) (nat_cmp x.1.1 y.1.1))

exact_lines : CmpEqualImpliesEq line_cmp
unfolding line_cmp
exact_lines = exact_pairs {B = ℕ × ℕ} nat_cmp (λ x y. ordering_then (nat_cmp x.0 y.0) (nat_cmp x.1 y.1)) exact_unsigned
    (exact_pairs {B = ℕ} nat_cmp nat_cmp exact_unsigned exact_unsigned)

parts_cmp : (x y : ℕ × (ℕ × (ℕ × ℕ))) → Ordering
parts_cmp x y = ordering_then (nat_cmp x.0 y.0) (line_cmp x.1 y.1)

exact_parts : CmpEqualImpliesEq parts_cmp
unfolding parts_cmp
exact_parts = exact_pairs {B = ℕ × (ℕ × ℕ)} nat_cmp line_cmp exact_unsigned exact_lines

pub exact_places : CmpEqualImpliesEq compare_places
unfolding parts_cmp line_cmp
exact_places a b h =
    ap (λ (x : ℕ × (ℕ × (ℕ × ℕ))). place_with x.0 x.1.0 x.1.1.0 x.1.1.1)
    (exact_parts (a.table, (a.number, (a.line, a.rank))) (b.table, (b.number, (b.line, b.rank))) h)

pub places_total : IsTotalOrder compare_places
places_total =
    then_total (on_total (λ (p : TablePlace). p.table) nat_cmp_total)
    (then_total (on_total (λ (p : TablePlace). p.number) nat_cmp_total)
    (then_total (on_total (λ (p : TablePlace). p.line) nat_cmp_total) (on_total (λ (p : TablePlace). p.rank) nat_cmp_total)))
