-- For private contracts and proofs alone: the answer to a request.
use Rattle.std.specs.Prelude.{◌≡◌, ℕ, List, Result, Ok, Err}
use Rattle.pam_facts.specs.declared.known.access.AccessDecision.{AccessDecision}
use Rattle.pam_tables.specs.declared.times.table.TimeAnswer.{TimeAnswer}
use Rattle.pam_report.specs.Answer.{table_of_line}
use Rattle.pam_report.specs.Finds.{IsTableFault, IsTimeFault}
use Rattle.pam_report.specs.Reply.{Answer, Access as AccessReply, Time as TimeReply}
use Rattle.pam_report.specs.declared.fault.Fault.{Fault}
use Rattle.pam_report.specs.declared.fault.Fault.TheVariants as faults

-- what is looked up is the answer, or its fault, unless an allocation failed
abbrev pub FindsFault : Fault → Answer → Type 0
FindsFault (faults.Table e) answer = IsTableFault (λ given. answer ≡ given) e e.error.fault
FindsFault (faults.Time e) answer = IsTimeFault (λ given. answer ≡ given) e e.fault
FindsFault _ answer = ⊥

-- access tables with these names are looked up
abbrev pub FindsAccess : List (List ℕ) → Result AccessDecision Fault → Answer → Type 0
FindsAccess names (Ok found) answer = answer ≡ Ok (AccessReply found.answer (table_of_line names found))
FindsAccess names (Err fault) answer = FindsFault fault answer

-- a time table is looked up
abbrev pub FindsTime : Result TimeAnswer Fault → Answer → Type 0
FindsTime (Ok found) answer = answer ≡ Ok (TimeReply found)
FindsTime (Err fault) answer = FindsFault fault answer
