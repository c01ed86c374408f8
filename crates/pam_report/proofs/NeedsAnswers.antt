-- The answer of `needs`, step by step: from the facts, the moment, the keys and the stack.
use Rattle.std.proofs.Common.{◌≡◌, ℕ, true, List, Option, Some, Result, Ok, Err, inl, inr, map, refl, subst, sym}
use Rattle.std.specs.Char.{to_ascii_lowercase}
use Rattle.std.specs.Prelude.{IfErr, is_some}
use Rattle.jiff.specs.Types.{DateTime}
use Rattle.pam_conf.specs.Resolution.{resolved}
use Rattle.pam_conf.specs.Stack.{Items}
use Rattle.pam_conf.specs.declared.conf_error.ConfError.{ConfError}
use Rattle.pam_conf.specs.declared.error.FaultKind.{FaultKind}
use Rattle.pam_conf.specs.declared.error.FaultKind.TheVariants as conf
use Rattle.pam_conf.specs.declared.rule.Kind.{Kind}
use Rattle.pam_facts.specs.Error.{TellsFault}
use Rattle.pam_facts.specs.Rows.{Row}
use Rattle.pam_facts.specs.declared.error.FactsError.{FactsError}
use Rattle.pam_facts.specs.declared.error.FactsFault.{FactsFault}
use Rattle.pam_facts.specs.declared.error.FactsFault.TheVariants as facts
use Rattle.pam_facts.specs.declared.known.error.NumberedError.{NumberedError}
use Rattle.pam_policy.specs.declared.host.error.StacksError.{StacksError}
use Rattle.pam_policy.specs.declared.host.error.StacksError.TheVariants as errors
use Rattle.pam_policy.specs.declared.host.stacks.ClassStack.{ClassStack}
use Rattle.pam_policy.specs.declared.host.stacks.ClassStack.TheVariants as classes
use Rattle.pam_policy.specs.declared.host.stacks.StackClass.{StackClass}
use Rattle.pam_policy.specs.host.HostStacks.{HasGraph, IsClassOf, IsErrorAt, IsGraphIn, IsStackOf}
use Rattle.pam_policy.specs.host.Sources.{SourcesText}
use Rattle.pam_tables.specs.declared.error.TableFault.{TableFault}
use Rattle.pam_tables.specs.declared.error.TableFault.TheVariants as tables
use Rattle.pam_tables.specs.declared.times.error.TimeError.{TimeError}
use Rattle.pam_tables.specs.declared.times.error.TimeFault.{TimeFault}
use Rattle.pam_tables.specs.declared.times.error.TimeFault.TheVariants as times
use Rattle.pam_report.proofs.StackFaults.{of-known, wanting-at}
use Rattle.pam_report.specs.Fault.{facts_fault, fault_of_facts}
use Rattle.pam_report.specs.Finds.{Finds, IsConfFault, IsTableFault, IsTimeFault, Refuses}
use Rattle.pam_report.specs.Inputs.{tables_given}
use Rattle.pam_report.specs.Memory.{IsWanting, Wants, of_paths, paths_tables}
use Rattle.pam_report.specs.Needs.{IsByClass, IsFrom}
use Rattle.pam_report.specs.Reply.{Answer}
use Rattle.pam_report.specs.ReplyViews.{reply_view}
use Rattle.pam_report.specs.declared.fault.Fault.{Fault}
use Rattle.pam_report.specs.declared.fault.Fault.TheVariants as faults
use Rattle.pam_report.specs.declared.inputs.Inputs.{Inputs}
use Rattle.pam_report.specs.declared.report.known_stack.StackRequest.{StackRequest}
use Rattle.pam_report.specs.declared.report.replies.Reply.{Reply}
use Rattle.pam_report.specs.inner.Needs.{FindsClass, fault_of_conf}
use Rattle.pam_report.specs.inner.Policy.{fault_of_stacks}

-- ---- a stack that is refused

module _ (IsAnswer : Answer → Type 0) (error : ConfError) (exact : IsAnswer (Err (faults.Conf error))) where
  refused-kind : (kind : FaultKind) → error.kind ≡ kind → Refuses IsAnswer (fault_of_conf kind error)
  refused-kind conf.Memory same = tt
  refused-kind _ same = subst (λ (k : FaultKind). IsConfFault IsAnswer error k) (sym same) exact

  pub refused-stack : Refuses IsAnswer (fault_of_conf error.kind error)
  refused-stack = refused-kind error.kind refl

refused-wanting-as : (wants : Wants) (error : ConfError) (kind : FaultKind) → wants.work ≡ true → wants.configuration ≡ true
    → IsWanting wants (fault_of_conf kind error)
refused-wanting-as wants error conf.Memory work configuration = work
refused-wanting-as wants error _ work configuration = λ memory. configuration

pub refused-wanting : (wants : Wants) (error : ConfError) → wants.work ≡ true → wants.configuration ≡ true → IsWanting wants (fault_of_conf error.kind error)
refused-wanting wants error = refused-wanting-as wants error error.kind

-- ---- what is known of the stack

has-graph : (sources : SourcesText) (name : List ℕ) (kind : Kind) (told : Result Items ConfError) (stack : ClassStack) → IsStackOf sources name kind told stack
    → IsGraphIn stack
has-graph sources name kind (Err error) (classes.Refused other) h = tt
has-graph sources name kind (Err error) classes.TooLarge h = absurd h
has-graph sources name kind (Err error) (classes.Known found) h = absurd h
has-graph sources name kind (Ok items) (classes.Refused other) h = tt
has-graph sources name kind (Ok items) classes.TooLarge h = tt
has-graph sources name kind (Ok items) (classes.Known found) h = h.is_of.graph

-- the graph of a class is that of its stack
pub class-graph : (sources : SourcesText) (name : List ℕ) (kind : Kind) (class : StackClass) → IsClassOf sources name kind class → HasGraph class
class-graph sources name kind class h = has-graph sources name kind (resolved sources.folder name kind) class.stack h.stack

-- it is refused
pub refused-class : (service : List ℕ) (kind : Kind) (rows : List Row) (stack : ClassStack) (error : ConfError) (fault : Fault) → stack ≡ classes.Refused error
    → fault ≡ fault_of_conf error.kind error → Refuses (IsByClass service kind rows stack) fault
refused-class service kind rows stack error fault is same =
    subst (λ (s : ClassStack). Refuses (IsByClass service kind rows s) fault) (sym is)
    (subst (λ (f : Fault). Refuses (IsByClass service kind rows (classes.Refused error)) f) (sym same)
    (refused-stack (IsByClass service kind rows (classes.Refused error)) error refl))

-- it is not found for this reason
pub lost-stack : (asked : StackRequest) (sources : SourcesText) (error : StacksError) (fault : Fault) → fault ≡ fault_of_stacks error
    → IsErrorAt sources (map to_ascii_lowercase asked.service.now) asked.kind error → FindsClass asked sources (Err fault)
lost-stack asked sources (errors.Known error) fault same why = inr (record { error = error; same = same; is_fault = why })
lost-stack asked sources errors.Memory fault same why = inl same

-- ---- a weaker relation

module _ (IsAnswer Weaker : Answer → Type 0) (weaken : (answer : Answer) → IsAnswer answer → Weaker answer) where
  conf-more : (e : ConfError) (kind : FaultKind) → IsConfFault IsAnswer e kind → IsConfFault Weaker e kind
  conf-more e conf.Memory h = h
  conf-more e _ h = weaken (Err (faults.Conf e)) h

  table-more : (e : NumberedError) (fault : TableFault) → IsTableFault IsAnswer e fault → IsTableFault Weaker e fault
  table-more e tables.Memory h = h
  table-more e _ h = weaken (Err (faults.Table e)) h

  time-more : (e : TimeError) (fault : TimeFault) → IsTimeFault IsAnswer e fault → IsTimeFault Weaker e fault
  time-more e times.Memory h = h
  time-more e _ h = weaken (Err (faults.Time e)) h

  refuses-more : (fault : Fault) → Refuses IsAnswer fault → Refuses Weaker fault
  refuses-more faults.Device h = absurd h
  refuses-more faults.Memory h = tt
  refuses-more (faults.Conf e) h = conf-more e e.kind h
  refuses-more (faults.Count e) h = weaken (Err (faults.Count e)) h
  refuses-more faults.TooManyStates h = weaken (Err faults.TooManyStates) h
  refuses-more faults.NoSuchModule h = weaken (Err faults.NoSuchModule) h
  refuses-more faults.NoSuchKey h = weaken (Err faults.NoSuchKey) h
  refuses-more (faults.Facts e) h = weaken (Err (faults.Facts e)) h
  refuses-more (faults.Policy e) h = weaken (Err (faults.Policy e)) h
  refuses-more (faults.Accept e) h = weaken (Err (faults.Accept e)) h
  refuses-more faults.NoSuchNumber h = weaken (Err faults.NoSuchNumber) h
  refuses-more faults.NoSuchService h = weaken (Err faults.NoSuchService) h
  refuses-more faults.UnusedCandidate h = weaken (Err faults.UnusedCandidate) h
  refuses-more faults.Unread h = weaken (Err faults.Unread) h
  refuses-more (faults.Moment e) h = weaken (Err (faults.Moment e)) h
  refuses-more (faults.Cursor e) h = absurd h
  refuses-more (faults.Table e) h = table-more e e.error.fault h
  refuses-more (faults.Time e) h = time-more e e.fault h

  finds-more : (result : Result Reply Fault) → Finds result IsAnswer → Finds result Weaker
  finds-more (Ok reply) h = weaken (Ok (reply_view reply)) h
  finds-more (Err fault) h = refuses-more fault h

-- ---- what is answered

module _ (asked : StackRequest) (rows : List Row) (sources : SourcesText) where
  abbrev service : List ℕ
  service = asked.service.now

  abbrev IsRight : Answer → Type 0
  IsRight = IsFrom service asked.kind rows sources

  pub from-class : (class : StackClass) (result : Result Reply Fault) → IsClassOf sources (map to_ascii_lowercase service) asked.kind class
      → Finds result (IsByClass service asked.kind rows class.stack) → Finds result IsRight
  from-class class result is h =
      finds-more (IsByClass service asked.kind rows class.stack) IsRight
      (λ answer by. inr (record { class = class; is_class = is; is_answer = by })) result h

  pub without-class : (fault : Fault) → FindsClass asked sources (Err fault) → Refuses IsRight fault
  without-class fault (inl memory) = subst (λ (f : Fault). Refuses IsRight f) (sym memory) tt
  without-class fault (inr refusal) =
      subst (λ (f : Fault). Refuses IsRight f) (sym refusal.same)
      (of-known sources (map to_ascii_lowercase service) asked.kind IsRight refusal.error refusal.is_fault
      (inl (record { error = refusal.error; is_fault = refusal.is_fault; is_answer = refl })))

  pub class-wanting : (inputs : Inputs) (moment : Option DateTime) (result : Result StackClass Fault) → sources.tables ≡ tables_given inputs (Some rows) moment
      → FindsClass asked sources result → IfErr result (IsWanting (of_paths (paths_tables (is_some moment) inputs)))
  class-wanting inputs moment (Ok class) same h = tt
  class-wanting inputs moment (Err fault) same (inl memory) =
      subst (λ (f : Fault). IsWanting (of_paths (paths_tables (is_some moment) inputs)) f) (sym memory) refl
  class-wanting inputs moment (Err fault) same (inr refusal) =
      subst (λ (f : Fault). IsWanting (of_paths (paths_tables (is_some moment) inputs)) f) (sym refusal.same)
      (wanting-at sources (map to_ascii_lowercase service) asked.kind inputs (Some rows) moment refusal.error same refusal.is_fault)

-- ---- the facts

module _ (IsIn : Result (List Row) FactsError → Answer → Type 0) (told : Result (List Row) FactsError) (e : FactsError)
    (exact : IsIn (Err e) (Err (facts_fault e))) where
  unread-as : (fault : FactsFault) → e.fault ≡ fault → TellsFault fault e told → Refuses (IsIn told) (fault_of_facts fault e)
  unread-as facts.Memory same h = tt
  unread-as _ same h =
      subst (λ (t : Result (List Row) FactsError). IsIn t (Err (faults.Facts e))) (sym h)
      (subst (λ (f : FactsFault). IsIn (Err e) (Err (fault_of_facts f e))) same exact)

  pub without-facts : TellsFault e.fault e told → Refuses (IsIn told) (facts_fault e)
  without-facts h = unread-as e.fault refl h

-- ---- what is told

-- what is found where this is told is found where an equal value is
pub as-told : {T : Type 0} (IsIn : T → Answer → Type 0) (told is : T) (result : Result Reply Fault) → told ≡ is → Finds result (IsIn is)
    → Finds result (IsIn told)
as-told {T} IsIn told is result same h = subst (λ (t : T). Finds result (IsIn t)) (sym same) h
