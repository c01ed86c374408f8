-- Access tables that are read one after another: pam_access(8), access.conf(5).
use Rattle.std.specs.Prelude.{◌≡◌, ℕ, ◌+◌, Bool, true, false, List, [], ◌∷◌, map, Option, None, Some, Result, Ok, Err}
use Rattle.std.specs.List.{enumerate_from, find}
use Rattle.std.specs.Option.{option_map, unwrap_or}
use Rattle.pam_tables.specs.Access.{access_answer, table_of}
use Rattle.pam_tables.specs.Groups.{Group}
use Rattle.pam_tables.specs.Login.{LoginText}
use Rattle.pam_tables.specs.Options.{Options}
use Rattle.pam_tables.specs.declared.access.AccessAnswer.{AccessAnswer}
use Rattle.pam_tables.specs.declared.access.AccessAnswer.TheVariants.{Denied, Granted}
use Rattle.pam_tables.specs.declared.error.Table.{Table}
use Rattle.pam_tables.specs.declared.error.Table.TheVariants.{Access}
use Rattle.pam_tables.specs.declared.error.TableError.{TableError}
use Rattle.pam_tables.specs.declared.error.TableFault.{TableFault}
use Rattle.pam_tables.specs.declared.error.TableFault.TheVariants.{Memory}
use Rattle.pam_facts.specs.declared.known.access.AccessDecision.{AccessDecision}
use Rattle.pam_facts.specs.declared.known.error.NumberedError.{NumberedError}

-- ---- faults

-- the fault of a table, with the number of the table from 1
abbrev pub numbered : {T : Type 0} → Table → ℕ → Result T (TableFault × ℕ) → Result T NumberedError
numbered table number (Ok t) = Ok t
numbered table number (Err e) = Err (record { number = number; error = record { table = table; fault = e.0; line = e.1 } })

abbrev pub IsTableFault : TableFault → ℕ → Type 0 → Type 0
IsTableFault Memory line exact = line ≡ 0
IsTableFault fault line exact = exact

-- an error is that of the definition, unless an allocation failed, which has no line
abbrev pub FailsAs : {Y : Type 0} → NumberedError → Result Y NumberedError → Type 0
FailsAs e told = IsTableFault e.error.fault e.error.line (told ≡ Err e)

-- ---- what several tables decide

abbrev pub result_map : {X Y E : Type 0} → (X → Y) → Result X E → Result Y E
result_map f (Ok x) = Ok (f x)
result_map f (Err e) = Err e

-- whether a line decides
abbrev pub is_by_line : AccessAnswer → Bool
is_by_line (Granted None) = false
is_by_line (Granted (Some line)) = true
is_by_line (Denied line) = true

-- no line of any table matches
abbrev pub no_line : AccessDecision
no_line = record { answer = Granted None; number = 0 }

abbrev pub decision_at : ℕ × AccessAnswer → AccessDecision
decision_at found = record { answer = found.1; number = found.0 }

-- the first answer of tables that a line gives, where the first table has this number
abbrev pub first_by_line : ℕ → List AccessAnswer → Option AccessDecision
first_by_line number answers = option_map decision_at (find (λ (p : ℕ × AccessAnswer). is_by_line p.1) (enumerate_from number answers))

-- THE DECISION of tables with these answers: the first answer that a line gives, with the number of its table from 0
abbrev pub decision_of : List AccessAnswer → AccessDecision
decision_of answers = unwrap_or (first_by_line 0 answers) no_line

abbrev pub onto_answers : Result AccessAnswer NumberedError → Result (List AccessAnswer) NumberedError → Result (List AccessAnswer) NumberedError
onto_answers (Err e) others = Err e
onto_answers (Ok answer) (Err e) = Err e
onto_answers (Ok answer) (Ok others) = Ok (answer ∷ others)

module _ (login : LoginText) (groups : List Group) (options : Options) where
  -- the answer of a table with these bytes, or its fault
  abbrev pub answer_at : ℕ → List ℕ → Result AccessAnswer NumberedError
  answer_at number bytes = result_map (λ table. access_answer table login groups) (numbered Access number (table_of options bytes))

  -- the answers of all tables, the first of which has this number; or the fault of the first table that has one
  unfoldable pub answers_from : ℕ → List (List ℕ) → Result (List AccessAnswer) NumberedError
  answers_from number [] = Ok []
  answers_from number (bytes ∷ others) = onto_answers (answer_at number bytes) (answers_from (number + 1) others)

  -- THE DECISION of tables with these contents, or the fault of the first that has one
  unfoldable pub tables_decide : List (List ℕ) → Result AccessDecision NumberedError
  tables_decide contents = result_map decision_of (answers_from 1 contents)
