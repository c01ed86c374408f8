-- What is answered about a known stack, from the contract of the call that finds it.
use Rattle.std.proofs.Common.{◌≡◌, ◌∙◌, ℕ, List, None, Some, Option, Result, Ok, Err, ap, refl, subst, sym, true}
use Rattle.std.specs.Prelude.{IfErr, is_some}
use Rattle.jiff.specs.Types.{DateTime}
use Rattle.pam_conf.specs.Stack.{Items, module_count}
use Rattle.pam_conf.specs.declared.conf_error.ConfError.{ConfError}
use Rattle.pam_conf.specs.declared.error.FaultKind.{FaultKind}
use Rattle.pam_conf.specs.declared.error.FaultKind.TheVariants as conf
use Rattle.pam_conf.specs.declared.rule.Kind.{Kind}
use Rattle.pam_facts.specs.Error.{TellsFault}
use Rattle.pam_facts.specs.Rows.{Row}
use Rattle.pam_facts.specs.declared.error.FactsError.{FactsError}
use Rattle.pam_facts.specs.declared.error.FactsFault.{FactsFault}
use Rattle.pam_facts.specs.declared.error.FactsFault.TheVariants as facts
use Rattle.pam_facts.specs.known.Access.{IsTableFault as IsFaultOfTable}
use Rattle.pam_facts.specs.known.Answers.{IsFault, IsTimeFault as IsFaultOfTime}
use Rattle.pam_facts.specs.known.Knowledge.{Agree, Knows, allows_codes}
use Rattle.pam_facts.specs.known.Reads.{tables_read}
use Rattle.pam_facts.specs.known.Tables.{TablesText, TimedText}
use Rattle.pam_facts.specs.declared.known.error.KnownError.{KnownError}
use Rattle.pam_facts.specs.declared.known.error.KnownError.TheVariants as known
use Rattle.pam_facts.specs.declared.known.error.NumberedError.{NumberedError}
use Rattle.pam_paths.specs.Known.{may_answer}
use Rattle.pam_paths.specs.Listing.{Allowance}
use Rattle.pam_paths.specs.declared.knowledge.Known.{Known}
use Rattle.pam_tables.specs.declared.error.TableFault.{TableFault}
use Rattle.pam_tables.specs.declared.error.TableFault.TheVariants as tables
use Rattle.pam_tables.specs.declared.times.error.TimeError.{TimeError}
use Rattle.pam_tables.specs.declared.times.error.TimeFault.{TimeFault}
use Rattle.pam_tables.specs.declared.times.error.TimeFault.TheVariants as times
use Rattle.pam_report.specs.Fault.{fault_of_facts, facts_fault, known_fault}
use Rattle.pam_report.proofs.Wanting.{wanted-given}
use Rattle.pam_report.specs.Inputs.{tables_given}
use Rattle.pam_report.specs.inner.Known.{AreCodesOf, FindsKnown, FindsStack, IsErrOf, IsFaultOf, IsFaultOfRead, with_time}
use Rattle.pam_report.specs.KnownStack.{IsAnswerFrom, KnownItems, known_items, rows_read, with_facts}
use Rattle.pam_report.specs.Finds.{Finds, IsConfFault, IsTableFault, IsTimeFault, Refuses}
use Rattle.pam_report.specs.Memory.{IsWanting, Wants, of_paths, paths_tables}
use Rattle.pam_report.specs.Reply.{Answer}
use Rattle.pam_report.specs.declared.fault.Fault.{Fault}
use Rattle.pam_report.specs.declared.fault.Fault.TheVariants as faults
use Rattle.pam_report.specs.declared.inputs.Inputs.{Inputs}
use Rattle.pam_report.specs.declared.inputs.Inputs.TheVariants as inputs
use Rattle.pam_report.specs.declared.report.known_stack.KnownStack.{KnownStack}
use Rattle.pam_report.specs.declared.report.replies.Reply.{Reply}

-- ---- what the tables tell

-- the fault of a table, as that of the known stack
module _ (items : Items) (told : Result (ℕ → List ℕ) KnownError) where
  err-is : (e : KnownError) → told ≡ Err e → known_items items told ≡ Err (known_fault e)
  err-is e h = subst (λ (t : Result (ℕ → List ℕ) KnownError). known_items items t ≡ Err (known_fault e)) (sym h) refl

  table-fault : (e : NumberedError) (fault : TableFault) → IsFaultOfTable fault e.error.line (told ≡ Err (known.Table e))
      → IsTableFault (IsErrOf (known_items items told)) e fault
  table-fault e tables.Memory h = h
  table-fault e _ h = err-is (known.Table e) h

  time-fault : (e : TimeError) (fault : TimeFault) → IsFaultOfTime fault e.line (told ≡ Err (known.Time e))
      → IsTimeFault (IsErrOf (known_items items told)) e fault
  time-fault e times.Memory h = h
  time-fault e _ h = err-is (known.Time e) h

  fault-told : (e : KnownError) → IsFault e (told ≡ Err e) → IsFaultOf (known_items items told) (known_fault e)
  fault-told (known.Table e) h = table-fault e e.error.fault h
  fault-told (known.Time e) h = time-fault e e.fault h

pub finds-err : (items : Items) (told : Result (ℕ → List ℕ) KnownError) (e : KnownError) (fault : Fault) → IsFault e (told ≡ Err e) → fault ≡ known_fault e
    → FindsKnown items (Err fault) (known_items items told)
finds-err items told e fault h same = subst (λ (f : Fault). IsFaultOf (known_items items told) f) (sym same) (fault-told items told e h)

pub finds-ok : (items : Items) (told : Result (ℕ → List ℕ) KnownError) (found : Known) → Knows (module_count items) (Ok found) told
    → FindsKnown items (Ok found) (known_items items told)
finds-ok items told found h = record {
  codes = h.0;
  told_is = subst (λ (t : Result (ℕ → List ℕ) KnownError). known_items items t ≡ Ok (record { items = items; codes = h.0 })) (sym h.1) refl;
  agree = h.2;
}

-- ---- tables

with_its : (given : Inputs) (facts : Option (List Row)) (moment : Option DateTime)
    → with_time (tables_given given facts None) (tables_given given None moment).time ≡ tables_given given facts moment
with_its (inputs.Paths files given) facts moment = refl
with_its (inputs.Host files paths given) facts moment = refl
with_its (inputs.Sides old new file returns) facts moment = refl
with_its inputs.Nothing facts moment = refl
with_its (inputs.Stack files) facts moment = refl
with_its (inputs.Access tables groups) facts moment = refl
with_its (inputs.Time table) facts moment = refl

-- the tables of these inputs at a moment
pub tables-are : (given : Inputs) (facts : Option (List Row)) (moment : Option DateTime) (tables : TablesText) (time : Option TimedText)
    → tables ≡ with_time (tables_given given facts None) time → time ≡ (tables_given given None moment).time → tables ≡ tables_given given facts moment
tables-are given facts moment tables time e f =
    e ∙ ap (λ (t : Option TimedText). with_time (tables_given given facts None) t) f ∙ with_its given facts moment

-- ---- want of memory

pub wants-read : (kind : Kind) (given : Inputs) (facts : Option (List Row)) (moment : Option DateTime) (items : Items) (result : Result Known Fault)
    → IfErr result (IsFaultOfRead (tables_read kind (tables_given given facts moment) items))
    → IfErr result (IsWanting (of_paths (paths_tables (is_some moment) given)))
wants-read kind given facts moment items (Ok found) h = tt
wants-read kind given facts moment items (Err fault) h =
    subst (λ (f : Fault). IsWanting (of_paths (paths_tables (is_some moment) given)) f) (sym h.1) (wanted-given kind given facts moment items h.0 h.2)

-- ---- facts

-- the facts that are asked are read
pub facts-read : (told : Result (List Row) FactsError) (rows : List Row) (found : Result KnownStack Fault) (next : Option (List Row) → Result KnownItems Fault)
    → told ≡ Ok rows → FindsStack found (next (Some rows)) → FindsStack found (with_facts (rows_read told) next)
facts-read told rows found next read h = subst (λ (t : Result (List Row) FactsError). FindsStack found (with_facts (rows_read t) next)) (sym read) h

-- or their file has a fault
module _ (told : Result (List Row) FactsError) (next : Option (List Row) → Result KnownItems Fault) (e : FactsError) where
  unread-as : (fault : FactsFault) → e.fault ≡ fault → TellsFault fault e told → IsFaultOf (with_facts (rows_read told) next) (fault_of_facts fault e)
  unread-as facts.Memory same h = tt
  unread-as _ same h =
      subst (λ (t : Result (List Row) FactsError). with_facts (rows_read t) next ≡ Err (faults.Facts e)) (sym h)
      (ap (λ (f : FactsFault). Err (fault_of_facts f e)) same)

  pub facts-unread : TellsFault e.fault e told → IsFaultOf (with_facts (rows_read told) next) (facts_fault e)
  facts-unread h = unread-as e.fault refl h

wanting-as : (wants : Wants) (e : FactsError) (fault : FactsFault) → e.fault ≡ fault → wants.work ≡ true → IsWanting wants (fault_of_facts fault e)
wanting-as wants e facts.Memory same work = work
wanting-as wants e _ same work = λ memory. absurd (cc)

pub facts-wanting : (wants : Wants) (e : FactsError) → wants.work ≡ true → IsWanting wants (facts_fault e)
facts-wanting wants e work = wanting-as wants e e.fault refl work

-- ---- what is answered

module _ (IsAnswerOf : Items → Allowance → Answer → Type 0) (told : Result KnownItems Fault) where
  from-err : (fault : Fault) → told ≡ Err fault → IsAnswerFrom IsAnswerOf told (Err fault)
  from-err fault h = subst (λ (t : Result KnownItems Fault). IsAnswerFrom IsAnswerOf t (Err fault)) (sym h) refl

  from-conf : (e : ConfError) (kind : FaultKind) → IsConfFault (IsErrOf told) e kind → IsConfFault (IsAnswerFrom IsAnswerOf told) e kind
  from-conf e conf.Memory h = h
  from-conf e _ h = from-err (faults.Conf e) h

  from-table : (e : NumberedError) (fault : TableFault) → IsTableFault (IsErrOf told) e fault → IsTableFault (IsAnswerFrom IsAnswerOf told) e fault
  from-table e tables.Memory h = h
  from-table e _ h = from-err (faults.Table e) h

  from-time : (e : TimeError) (fault : TimeFault) → IsTimeFault (IsErrOf told) e fault → IsTimeFault (IsAnswerFrom IsAnswerOf told) e fault
  from-time e times.Memory h = h
  from-time e _ h = from-err (faults.Time e) h

  -- the fault, if there is no known stack
  pub fault-found : (fault : Fault) → IsFaultOf told fault → Refuses (IsAnswerFrom IsAnswerOf told) fault
  fault-found faults.Device h = absurd h
  fault-found faults.Memory h = tt
  fault-found (faults.Conf e) h = from-conf e e.kind h
  fault-found (faults.Count e) h = from-err (faults.Count e) h
  fault-found faults.TooManyStates h = from-err faults.TooManyStates h
  fault-found faults.NoSuchModule h = from-err faults.NoSuchModule h
  fault-found faults.NoSuchKey h = from-err faults.NoSuchKey h
  fault-found (faults.Facts e) h = from-err (faults.Facts e) h
  fault-found (faults.Policy e) h = from-err (faults.Policy e) h
  fault-found (faults.Accept e) h = from-err (faults.Accept e) h
  fault-found faults.NoSuchNumber h = from-err faults.NoSuchNumber h
  fault-found faults.NoSuchService h = from-err faults.NoSuchService h
  fault-found faults.UnusedCandidate h = from-err faults.UnusedCandidate h
  fault-found faults.Unread h = from-err faults.Unread h
  fault-found (faults.Moment e) h = from-err (faults.Moment e) h
  fault-found (faults.Cursor e) h = absurd h
  fault-found (faults.Table e) h = from-table e e.error.fault h
  fault-found (faults.Time e) h = from-time e e.fault h

  -- the answer about it, if there is one
  pub answer-found : (result : Result Reply Fault) (items : Items) (found : Known) → AreCodesOf items found told
      → ((allows : Allowance) → Agree (module_count items) (may_answer found) allows → Finds result (IsAnswerOf items allows))
      → Finds result (IsAnswerFrom IsAnswerOf told)
  answer-found result items found h answer =
      subst (λ (t : Result KnownItems Fault). Finds result (IsAnswerFrom IsAnswerOf t)) (sym h.told_is) (answer (allows_codes h.codes) h.agree)
