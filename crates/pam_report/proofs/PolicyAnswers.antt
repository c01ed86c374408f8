-- The answer of `policy`, step by step: from the facts, the policies, the moment, the keys and the stacks.
use Rattle.std.proofs.Common.{◌≡◌, ◌⊎◌, ℕ, Bool, true, List, Option, Result, Ok, Err, ap, inl, inr, refl, subst, sym}
use Rattle.std.specs.Prelude.{IfErr, is_some}
use Rattle.jiff.specs.Types.{DateTime}
use Rattle.pam_conf.specs.Files.{Folder}
use Rattle.pam_conf.specs.Services.{services_in}
use Rattle.pam_facts.specs.Error.{TellsFault}
use Rattle.pam_facts.specs.Rows.{Row}
use Rattle.pam_facts.specs.declared.error.FactsError.{FactsError}
use Rattle.pam_facts.specs.declared.error.FactsFault.{FactsFault}
use Rattle.pam_facts.specs.declared.error.FactsFault.TheVariants as facts_faults
use Rattle.pam_policy.specs.declared.host.error.StacksError.{StacksError}
use Rattle.pam_policy.specs.declared.host.error.StacksError.TheVariants as errors
use Rattle.pam_policy.specs.declared.host.stacks.HostStacks.{HostStacks}
use Rattle.pam_policy.specs.declared.text.error.PolicyError.{PolicyError}
use Rattle.pam_policy.specs.declared.text.error.PolicyFault.{PolicyFault}
use Rattle.pam_policy.specs.declared.text.error.PolicyFault.TheVariants.{Memory}
use Rattle.pam_policy.specs.host.HostStacks.{WhyNoStacks}
use Rattle.pam_policy.specs.host.Sources.{SourcesText}
use Rattle.pam_policy.specs.text.Rules.{RuleText}
use Rattle.pam_tables.specs.declared.times.moments.MomentError.{MomentError}
use Rattle.pam_report.proofs.StackFaults.{of-known, wanting-at}
use Rattle.pam_report.specs.Fault.{facts_fault, fault_of_facts, fault_of_policy, known_fault, policy_fault}
use Rattle.pam_report.specs.Finds.{Finds, Refuses}
use Rattle.pam_report.specs.Inputs.{tables_given}
use Rattle.pam_report.specs.Memory.{IsWanting, Wants, of_paths, paths_tables}
use Rattle.pam_report.specs.Policy.{IsByFacts, IsKeyed, IsRead, IsTableRefusal, IsTimed, PolicyText}
use Rattle.pam_report.specs.Reply.{Answer}
use Rattle.pam_report.specs.declared.fault.Fault.{Fault}
use Rattle.pam_report.specs.declared.fault.Fault.TheVariants as faults
use Rattle.pam_report.specs.declared.inputs.Inputs.{Inputs}
use Rattle.pam_report.specs.declared.report.replies.Reply.{Reply}
use Rattle.pam_report.specs.inner.Policy.{FindsStacks, IsUnread, fault_of_stacks}

module _ (asked : PolicyText) (files : Folder) (inputs : Inputs) where
  -- ---- facts

  module _ (told : Result (List Row) FactsError) where
    pub by-facts : (rows : List Row) (result : Result Reply Fault) → told ≡ Ok rows → Finds result (IsByFacts asked files inputs (Ok rows))
        → Finds result (IsByFacts asked files inputs told)
    by-facts rows result is h = subst (λ (t : Result (List Row) FactsError). Finds result (IsByFacts asked files inputs t)) (sym is) h

    module _ (e : FactsError) where
      refused-as : (fault : FactsFault) → e.fault ≡ fault → TellsFault fault e told → Refuses (IsByFacts asked files inputs told) (fault_of_facts fault e)
      refused-as facts_faults.Memory same h = tt
      refused-as _ same h =
          subst (λ (t : Result (List Row) FactsError). IsByFacts asked files inputs t (Err (faults.Facts e))) (sym h)
          (ap (λ (f : FactsFault). Err (fault_of_facts f e)) (sym same))

      pub without-facts : TellsFault e.fault e told → Refuses (IsByFacts asked files inputs told) (facts_fault e)
      without-facts h = refused-as e.fault refl h

  -- ---- policies

  module _ (told : Result (List (List RuleText)) Fault) (rows : List Row) where
    pub by-rules : (rules : List (List RuleText)) (result : Result Reply Fault) → told ≡ Ok rules
        → Finds result (IsTimed asked files inputs asked.moment rows rules) → Finds result (IsRead asked files inputs told rows)
    by-rules rules result is h = subst (λ (t : Result (List (List RuleText)) Fault). Finds result (IsRead asked files inputs t rows)) (sym is) h

    policy-refused : (number : ℕ) (e : PolicyError) (fault : PolicyFault)
        → Refuses (IsRead asked files inputs (Err (fault_of_policy fault (record { number = number; error = e }))) rows)
        (fault_of_policy fault (record { number = number; error = e }))
    policy-refused number e Memory = tt
    policy-refused number e _ = refl

    pub without-rules : (fault : Fault) → IsUnread told fault → Refuses (IsRead asked files inputs told rows) fault
    without-rules fault (inl memory) = subst (λ (f : Fault). Refuses (IsRead asked files inputs told rows) f) (sym memory) tt
    without-rules fault (inr unread) =
        subst (λ (f : Fault). Refuses (IsRead asked files inputs told rows) f) (sym unread.same)
        (subst (λ (t : Result (List (List RuleText)) Fault). Refuses (IsRead asked files inputs t rows) (policy_fault unread.number unread.error))
        (sym unread.told_is) (policy-refused unread.number unread.error unread.error.fault))

  -- ---- the moment

  module _ (rows : List Row) (policies : List (List RuleText)) (result : Result Reply Fault) where
    pub timed : (given at : Option (Result DateTime MomentError)) → given ≡ at → Finds result (IsTimed asked files inputs at rows policies)
        → Finds result (IsTimed asked files inputs given rows policies)
    timed given at is h = subst (λ (m : Option (Result DateTime MomentError)). Finds result (IsTimed asked files inputs m rows policies)) (sym is) h

    -- ---- the keys

    pub keyed : (moment : Option DateTime) (named is : Bool) → named ≡ is → Finds result (IsKeyed asked files inputs is rows policies moment)
        → Finds result (IsKeyed asked files inputs named rows policies moment)
    keyed moment named is same h = subst (λ (b : Bool). Finds result (IsKeyed asked files inputs b rows policies moment)) (sym same) h

-- ---- the stacks

-- they are not found for this reason
pub refused-stacks : (sources : SourcesText) (error : StacksError) (fault : Fault) → fault ≡ fault_of_stacks error
    → WhyNoStacks sources (services_in sources.folder.form sources.folder.entries) error → (fault ≡ faults.Memory) ⊎ IsTableRefusal sources fault
refused-stacks sources (errors.Known error) fault same why = inr (record { error = error; same = same; met = why })
refused-stacks sources errors.Memory fault same why = inl same

-- the fault of a table, if an answer with it is right
module _ (sources : SourcesText) (IsAnswer : Answer → Type 0) (exact : (fault : Fault) → IsTableRefusal sources fault → IsAnswer (Err fault)) where
  pub without-stacks : (fault : Fault) → (fault ≡ faults.Memory) ⊎ IsTableRefusal sources fault → Refuses IsAnswer fault
  without-stacks fault (inl memory) = subst (λ (f : Fault). Refuses IsAnswer f) (sym memory) tt
  without-stacks fault (inr refusal) =
      let met = refusal.met in
      let answered = exact (known_fault refusal.error) (record { error = refusal.error; same = refl; met = met }) in
      subst (λ (f : Fault). Refuses IsAnswer f) (sym refusal.same) (of-known sources met.name met.kind IsAnswer refusal.error met.is_error answered)

-- ---- want of memory

wanting-as : (wants : Wants) (number : ℕ) (e : PolicyError) (fault : PolicyFault) → e.fault ≡ fault → wants.work ≡ true
    → IsWanting wants (fault_of_policy fault (record { number = number; error = e }))
wanting-as wants number e Memory same work = work
wanting-as wants number e _ same work = λ memory. absurd (cc)

pub rules-wanting : (wants : Wants) (told : Result (List (List RuleText)) Fault) (fault : Fault) → wants.work ≡ true → IsUnread told fault → IsWanting wants fault
rules-wanting wants told fault work (inl memory) = subst (λ (f : Fault). IsWanting wants f) (sym memory) work
rules-wanting wants told fault work (inr unread) =
    subst (λ (f : Fault). IsWanting wants f) (sym unread.same) (wanting-as wants unread.number unread.error unread.error.fault refl work)

-- the tables that are read for a stack are given
pub stacks-wanting : (sources : SourcesText) (inputs : Inputs) (rows : Option (List Row)) (moment : Option DateTime) (result : Result HostStacks Fault)
    → sources.tables ≡ tables_given inputs rows moment → FindsStacks sources result
    → IfErr result (IsWanting (of_paths (paths_tables (is_some moment) inputs)))
stacks-wanting sources inputs rows moment (Ok stacks) same h = tt
stacks-wanting sources inputs rows moment (Err fault) same (inl memory) =
    subst (λ (f : Fault). IsWanting (of_paths (paths_tables (is_some moment) inputs)) f) (sym memory) refl
stacks-wanting sources inputs rows moment (Err fault) same (inr refusal) =
    let met = refusal.met in
    subst (λ (f : Fault). IsWanting (of_paths (paths_tables (is_some moment) inputs)) f) (sym refusal.same)
    (wanting-at sources met.name met.kind inputs rows moment refusal.error same met.is_error)
