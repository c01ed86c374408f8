-- The stack of a service, with the codes that its modules may return: pam.conf(5), access.conf(5), time.conf(5).
use Rattle.std.specs.Prelude.{◌≡◌, ℕ, List, Option, None, Some, Result, Ok, Err}
use Rattle.jiff.specs.Types.{DateTime}
use Rattle.pam_conf.specs.Stack.{Items}
use Rattle.pam_conf.specs.declared.conf_error.ConfError.{ConfError}
use Rattle.pam_conf.specs.declared.rule.Kind.{Kind}
use Rattle.pam_facts.specs.Reading.{known_rows}
use Rattle.pam_facts.specs.Rows.{Row}
use Rattle.pam_facts.specs.known.Knowledge.{allows_codes, knowledge}
use Rattle.pam_facts.specs.declared.error.FactsError.{FactsError}
use Rattle.pam_facts.specs.declared.known.error.KnownError.{KnownError}
use Rattle.pam_paths.specs.Listing.{Allowance}
use Rattle.pam_tables.specs.Login.{LoginText}
use Rattle.pam_tables.specs.declared.times.moments.MomentError.{MomentError}
use Rattle.pam_words.specs.declared.wanted.Answers.{Answers}
use Rattle.pam_words.specs.declared.wanted.Answers.TheVariants.{Any, Possible}
use Rattle.pam_report.specs.Fault.{facts_fault, known_fault}
use Rattle.pam_report.specs.Inputs.{facts_given, tables_given}
use Rattle.pam_report.specs.Reply.{Answer}
use Rattle.pam_report.specs.declared.fault.Fault.{Fault}
use Rattle.pam_report.specs.declared.fault.Fault.TheVariants as faults
use Rattle.pam_report.specs.declared.inputs.Inputs.{Inputs}

-- a stack, and the codes that each of its modules may return, by its number
pub record KnownItems : Type 0 where
  pub items : Items
  pub codes : ℕ → List ℕ

abbrev pub known_items : Items → Result (ℕ → List ℕ) KnownError → Result KnownItems Fault
known_items items (Err e) = Err (known_fault e)
known_items items (Ok codes) = Ok (record { items = items; codes = codes })

-- ---- facts

abbrev pub rows_read : Result (List Row) FactsError → Result (Option (List Row)) Fault
rows_read (Err e) = Err (facts_fault e)
rows_read (Ok rows) = Ok (Some rows)

-- THE FACTS, if it is asked what is possible: the program's table and then the facts file, or its fault
abbrev pub facts_asked : Answers → Inputs → Result (Option (List Row)) Fault
facts_asked Any inputs = Ok None
facts_asked (Possible named) inputs = rows_read (known_rows (facts_given inputs))

-- a fault of the facts file comes before all others
abbrev pub with_facts : Result (Option (List Row)) Fault → (Option (List Row) → Result KnownItems Fault) → Result KnownItems Fault
with_facts (Err fault) next = Err fault
with_facts (Ok facts) next = next facts

-- ---- the stack

module _ (kind : Kind) (login : LoginText) (inputs : Inputs) (facts : Option (List Row)) where
  abbrev pub known_at : Items → Option DateTime → Result KnownItems Fault
  known_at items moment = known_items items (knowledge kind login (tables_given inputs facts moment) items)

  -- a given moment must be valid even if no table needs it
  abbrev pub known_then : Items → Option (Result DateTime MomentError) → Result KnownItems Fault
  known_then items None = known_at items None
  known_then items (Some (Ok moment)) = known_at items (Some moment)
  known_then items (Some (Err e)) = Err (faults.Moment e)

  -- THE KNOWN STACK, or the first fault: of the configuration, then of the moment, then of the tables
  abbrev pub known_stack : Option (Result DateTime MomentError) → Result Items ConfError → Result KnownItems Fault
  known_stack moment (Err e) = Err (faults.Conf e)
  known_stack moment (Ok items) = known_then items moment

-- an answer that is about a known stack
abbrev pub IsAnswerFrom : (Items → Allowance → Answer → Type 0) → Result KnownItems Fault → Answer → Type 0
IsAnswerFrom IsAnswerOf (Err fault) answer = answer ≡ Err fault
IsAnswerFrom IsAnswerOf (Ok stack) answer = IsAnswerOf stack.items (allows_codes stack.codes) answer
