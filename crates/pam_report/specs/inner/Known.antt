-- For private contracts and proofs alone: a known stack that is found, or why there is none.
use Rattle.std.specs.Prelude.{◌≡◌, ⊤, ℕ, List, Option, Result, Ok, Err, is_some, map, option_map}
use Rattle.std.specs.Borrow.{Bor}
use Rattle.jiff.specs.Types.{DateTime}
use Rattle.pam_conf.specs.Stack.{Items, module_count}
use Rattle.pam_facts.specs.Rows.{Row}
use Rattle.pam_facts.specs.declared.facts.Facts.{Facts}
use Rattle.pam_facts.specs.known.Knowledge.{Agree, allows_codes}
use Rattle.pam_facts.specs.known.Reads.{IsOfRead, TablesRead}
use Rattle.pam_facts.specs.known.Tables.{TablesText, TimedText}
use Rattle.pam_facts.specs.declared.known.error.KnownError.{KnownError}
use Rattle.pam_paths.specs.Known.{may_answer}
use Rattle.pam_paths.specs.Listing.{Allowance}
use Rattle.pam_paths.specs.declared.knowledge.Known.{Known}
use Rattle.pam_facts.specs.settings.Settings.{setting_view}
use Rattle.pam_report.specs.Answer.{stack_at}
use Rattle.pam_report.specs.Fault.{known_fault}
use Rattle.pam_report.specs.Inputs.{tables_given}
use Rattle.pam_report.specs.declared.inputs.known_tables.Given.{Given}
use Rattle.pam_report.specs.KnownStack.{KnownItems}
use Rattle.pam_report.specs.Finds.{Finds, IsConfFault, IsTableFault, IsTimeFault}
use Rattle.pam_report.specs.Memory.{WantsOnly, of_paths, paths_tables}
use Rattle.pam_report.specs.Reply.{Answer}
use Rattle.pam_report.specs.declared.fault.Fault.{Fault}
use Rattle.pam_report.specs.declared.fault.Fault.TheVariants as faults
use Rattle.pam_report.specs.declared.report.known_stack.KnownStack.{KnownStack}
use Rattle.pam_report.specs.declared.report.known_stack.Sources.{Sources}
use Rattle.pam_report.specs.declared.report.known_stack.StackRequest.{StackRequest}
use Rattle.pam_report.specs.declared.report.replies.Reply.{Reply}

-- an answer that is the fault of a result
abbrev pub IsErrOf : {A : Type 0} → Result A Fault → Answer → Type 0
IsErrOf told (Ok report) = ⊥
IsErrOf told (Err fault) = told ≡ Err fault

-- a fault is that of a result, unless an allocation failed
abbrev pub IsFaultOf : {A : Type 0} → Result A Fault → Fault → Type 0
IsFaultOf told faults.Memory = ⊤
IsFaultOf told faults.Device = ⊥
IsFaultOf told (faults.Cursor e) = ⊥
IsFaultOf told (faults.Conf e) = IsConfFault (IsErrOf told) e e.kind
IsFaultOf told (faults.Table e) = IsTableFault (IsErrOf told) e e.error.fault
IsFaultOf told (faults.Time e) = IsTimeFault (IsErrOf told) e e.fault
IsFaultOf told fault = told ≡ Err fault

-- these are the codes that the modules of a known stack may return
pub record AreCodesOf (items : Items) (known : Known) (told : Result KnownItems Fault) : Type 0 where
  pub codes : ℕ → List ℕ
  pub told_is : told ≡ Ok (record { items = items; codes = codes })
  pub agree : Agree (module_count items) (may_answer known) (allows_codes codes)

abbrev pub FindsKnown : Items → Result Known Fault → Result KnownItems Fault → Type 0
FindsKnown items (Ok known) told = AreCodesOf items known told
FindsKnown items (Err fault) told = IsFaultOf told fault

-- the stack that is asked for, with the codes that its modules may return
abbrev pub stack_from : Sources → StackRequest → Result KnownItems Fault
stack_from sources asked =
    stack_at asked.service.now asked.kind asked.login sources.answers (map setting_view sources.settings.now) sources.inputs.now sources.moment
    sources.files.now

-- memory runs out only as it may where the runs of a stack are found
abbrev pub WantsForRuns : Sources → Result Reply Fault → Type 0
WantsForRuns sources result = WantsOnly (of_paths (paths_tables (is_some sources.moment) sources.inputs.now)) result

-- a call finds an answer that this relation has of a known stack
abbrev pub FindsOf : (Items → Allowance → Answer → Type 0) → KnownStack → Result Reply Fault → Type 0
FindsOf IsAnswerOf found result =
    (allows : Allowance) → Agree (module_count found.stack) (may_answer found.known) allows → Finds result (IsAnswerOf found.stack allows)

abbrev pub FindsStack : Result KnownStack Fault → Result KnownItems Fault → Type 0
FindsStack (Ok found) told = AreCodesOf found.stack found.known told
FindsStack (Err fault) told = IsFaultOf told fault

-- a fault is of a table that is read
abbrev pub IsFaultOfRead : TablesRead → Fault → Type 0
IsFaultOfRead read fault = (e : KnownError) × (fault ≡ known_fault e) × IsOfRead read e

-- tables with this time table
abbrev pub with_time : TablesText → Option TimedText → TablesText
with_time tables time = record {
  there = tables.there;
  groups = tables.groups;
  access = tables.access;
  time = time;
  returns = tables.returns;
  facts = tables.facts;
}

-- what is known of modules, if that is asked
abbrev pub rows_of : Option (Bor Facts) → Option (List Row)
rows_of facts = option_map (λ f. f.now) facts

-- the tables of what is given, at a moment
abbrev pub tables_from : Given → Option DateTime → TablesText
tables_from given moment = tables_given given.inputs.now (rows_of given.facts) moment
