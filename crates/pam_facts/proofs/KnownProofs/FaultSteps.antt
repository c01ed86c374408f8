-- The first fault of the tables of modules, one after another.
use Rattle.std.proofs.Common.{◌≡◌, ℕ, ◌+◌, ◌-◌, ◌<◌, suc, Bool, false, ◌||◌, ◌∷◌, sym, ◌∙◌, ap, subst, arith}
use Rattle.std.specs.Prelude.{Option, Some, None, Result, Ok, Err}
use Rattle.std.specs.List.{list_any, range_with_len}
use Rattle.std.specs.Option.{option_or}
use Rattle.pam_tables.specs.Error.{FailsAt}
use Rattle.pam_tables.specs.declared.error.Table.{Table}
use Rattle.pam_tables.specs.declared.error.TableError.{TableError}
use Rattle.pam_tables.specs.declared.error.TableFault.{TableFault}
use Rattle.pam_tables.specs.declared.error.TableFault.TheVariants.{Memory}
use Rattle.pam_tables.specs.declared.times.error.TimeFault.{TimeFault}
use Rattle.pam_tables.specs.declared.times.error.TimeFault.TheVariants as times
use Rattle.pam_facts.specs.known.Access.{IsTableFault}
use Rattle.pam_facts.specs.known.Answers.{IsFault, IsTimeFault, read_as}
use Rattle.pam_facts.specs.known.Knowledge.{fault_told, first_fault}
use Rattle.pam_facts.specs.known.inner.Sets.{TellsIfAny}
use Rattle.pam_facts.specs.declared.known.error.KnownError.{KnownError}
use Rattle.pam_facts.specs.declared.known.error.KnownError.TheVariants as known
use Rattle.pam_facts.specs.declared.known.error.NumberedError.{NumberedError}

-- a fault of one reading is that of another
pub table_fault_of : {A B : Type 0} (fault : TableFault) (line : ℕ) → (A → B) → IsTableFault fault line A → IsTableFault fault line B
table_fault_of Memory line f h = h
table_fault_of fault line f h = f h

time_fault_of : {A B : Type 0} (fault : TimeFault) (line : ℕ) → (A → B) → IsTimeFault fault line A → IsTimeFault fault line B
time_fault_of times.Memory line f h = h
time_fault_of fault line f h = f h

pub is_fault_of : {A B : Type 0} (e : KnownError) → (A → B) → IsFault e A → IsFault e B
is_fault_of (known.Table e) f h = table_fault_of e.error.fault e.error.line f h
is_fault_of (known.Time e) f h = time_fault_of e.fault e.line f h

-- the fault of a table that is the only one of its kind, or the first
abbrev pub first : TableError → NumberedError
first e = record { number = 1; error = e }

table_fails : {T : Type 0} (table : Table) (fault : TableFault) (line : ℕ) (read : Result T (TableFault × ℕ)) → FailsAt fault line read →
    IsTableFault fault line (read_as table read ≡ Err (known.Table (first (record { table = table; fault = fault; line = line }))))
table_fails table Memory line read h = h
table_fails table fault line read h = ap (read_as table) h

-- a fault of a table's bytes is one of the table
pub read_fails : {T : Type 0} (table : Table) (e : TableError) (read : Result T (TableFault × ℕ)) → e.table ≡ table → FailsAt e.fault e.line read →
    IsFault (known.Table (first e)) (read_as table read ≡ Err (known.Table (first e)))
read_fails table e read same h =
    subst (λ (t : Table). IsFault (known.Table (first e)) (read_as t read ≡ Err (known.Table (first e)))) same (table_fails e.table e.fault e.line read h)

-- the remaining numbers, after one more
next_numbers : (n i : ℕ) → i < n → range_with_len (i + 1) (n - i) ≡ (i + 1) ∷ range_with_len (i + 1 + 1) (n - (i + 1))
next_numbers n i h =
    let more : n - i ≡ suc (n - (i + 1)) = omega arith in
    ap (λ (k : ℕ). range_with_len (i + 1) k) more

-- the same, for a test that the next module fails
pub any_next : (test : ℕ → Bool) (n i : ℕ) (all : Bool) → i < n → test (i + 1) ≡ false → list_any test (range_with_len (i + 1) (n - i)) ≡ all →
    list_any test (range_with_len (i + 1 + 1) (n - (i + 1))) ≡ all
any_next test n i all h fails e =
    sym (ap (list_any test) (next_numbers n i h) ∙ ap (λ (b : Bool). b || list_any test (range_with_len (i + 1 + 1) (n - (i + 1)))) fails) ∙ e

module _ (told : ℕ → Option (Result ℕ KnownError)) (n i : ℕ) (h : i < n) where
  here : first_fault told (range_with_len (i + 1) (n - i)) ≡ option_or (fault_told (told (i + 1))) (first_fault told (range_with_len (i + 1 + 1) (n - (i + 1))))
  unfolding first_fault
  here = ap (first_fault told) (next_numbers n i h)

  pub none_here : (all : Option KnownError) → fault_told (told (i + 1)) ≡ None → first_fault told (range_with_len (i + 1) (n - i)) ≡ all →
      first_fault told (range_with_len (i + 1 + 1) (n - (i + 1))) ≡ all
  none_here all none e =
      sym (here ∙ ap (λ (o : Option KnownError). option_or o (first_fault told (range_with_len (i + 1 + 1) (n - (i + 1))))) none) ∙ e

  fault_here : (all : Option KnownError) (e : KnownError) → told (i + 1) ≡ Some (Err e) → first_fault told (range_with_len (i + 1) (n - i)) ≡ all →
      all ≡ Some e
  fault_here all e is same =
      sym same ∙ here ∙ ap (λ (o : Option (Result ℕ KnownError)). option_or (fault_told o) (first_fault told (range_with_len (i + 1 + 1) (n - (i + 1))))) is

  pub fault_found : (all : Option KnownError) (e : KnownError) → IsFault e (told (i + 1) ≡ Some (Err e)) →
      first_fault told (range_with_len (i + 1) (n - i)) ≡ all → IsFault e (all ≡ Some e)
  fault_found all e is same =
      is_fault_of {A = told (i + 1) ≡ Some (Err e)} {B = all ≡ Some e} e (λ h. fault_here all e h same) is

-- no module is left
pub faults_done : (told : ℕ → Option (Result ℕ KnownError)) (n i : ℕ) (all : Option KnownError) → i ≡ n →
    first_fault told (range_with_len (i + 1) (n - i)) ≡ all → all ≡ None
unfolding first_fault
faults_done told n i all end e =
    let none : n - i ≡ 0 = omega arith in
    sym e ∙ ap (λ (k : ℕ). first_fault told (range_with_len (i + 1) k)) none

-- ---- what is told without a fault

pub no_fault : (answer : Option ℕ) (told : Option (Result ℕ KnownError)) → TellsIfAny (Ok answer) told → fault_told told ≡ None
no_fault None told h = ap fault_told h
no_fault (Some code) told h = ap fault_told h

pub told_none : (answer : Option ℕ) (told : Option (Result ℕ KnownError)) → TellsIfAny (Ok answer) told → answer ≡ None → told ≡ None
told_none None told h e = h
told_none (Some code) told h e = absurd (cc)

pub told_some : (answer : Option ℕ) (told : Option (Result ℕ KnownError)) (code : ℕ) → TellsIfAny (Ok answer) told → answer ≡ Some code →
    told ≡ Some (Ok code)
told_some None told code h e = absurd (cc)
told_some (Some other) told code h e = cc
