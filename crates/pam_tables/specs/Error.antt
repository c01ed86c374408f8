-- Faults of the tables of access.conf(5), time.conf(5) and group(5).
use Rattle.std.specs.Prelude.{◌≡◌, ◌∷◌, [], ℕ, List, Option, Some, None, Result, Ok, Err}
use Rattle.pam_text.specs.Gives.{Gives as GivesAs}
use Rattle.pam_tables.specs.declared.error.Table.{Table}
use Rattle.pam_tables.specs.declared.error.TableError.{TableError}
use Rattle.pam_tables.specs.declared.error.TableFault.{TableFault}
use Rattle.pam_tables.specs.declared.error.TableFault.TheVariants.{Memory}

-- a failed allocation has no line
abbrev pub line_of_fault : TableFault → ℕ → ℕ
line_of_fault Memory line = 0
line_of_fault _ line = line

-- ---- results of calls, against what the bytes spell

abbrev pub FailsAt : {Y : Type 0} → TableFault → ℕ → Result Y (TableFault × ℕ) → Type 0
FailsAt Memory line read = line ≡ 0
FailsAt fault line read = read ≡ Err (fault, line)

-- a table, or its first fault with its line, as read says, unless an allocation failed
abbrev pub Gives : {X Y : Type 0} → Table → (X → Y) → Result X TableError → Result Y (TableFault × ℕ) → Type 0
Gives table view result read = GivesAs (λ e r. (e.table ≡ table) × FailsAt e.fault e.line r) view result read

-- whether a reading succeeds, or else its fault
abbrev pub verdict : {X E : Type 0} → Result X E → Result (Unit {0}) E
verdict (Ok x) = Ok tt
verdict (Err e) = Err e

-- ---- line by line

-- the entry of a line, if it has one, before those of the other lines; its fault comes before theirs
abbrev pub onto_lines : {A : Type 0} → ℕ → Result (Option A) TableFault → Result (List A) (TableFault × ℕ) → Result (List A) (TableFault × ℕ)
onto_lines line (Err fault) others = Err (fault, line)
onto_lines line (Ok None) others = others
onto_lines line (Ok (Some x)) (Ok xs) = Ok (x ∷ xs)
onto_lines line (Ok (Some x)) (Err e) = Err e

-- the entries of numbered lines, or the first fault, with its line number
unfoldable pub read_lines : {A : Type 0} → (ℕ → List ℕ → Result (Option A) TableFault) → List (ℕ × List ℕ) → Result (List A) (TableFault × ℕ)
read_lines read [] = Ok []
read_lines read (line ∷ lines) = onto_lines line.0 (read line.0 line.1) (read_lines read lines)
