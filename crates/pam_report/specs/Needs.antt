-- The reply of `needs`: the rules that hold of a stack.
use Rattle.std.specs.Prelude.{◌≡◌, ◌⊎◌, ℕ, Bool, true, false, List, map, Option, Some, None, Result, Ok, Err}
use Rattle.std.specs.Char.{to_ascii_lowercase}
use Rattle.jiff.specs.Types.{DateTime}
use Rattle.pam_conf.specs.Files.{Folder}
use Rattle.pam_conf.specs.declared.rule.Kind.{Kind}
use Rattle.pam_facts.specs.Reading.{known_rows}
use Rattle.pam_facts.specs.Rows.{Row}
use Rattle.pam_facts.specs.declared.error.FactsError.{FactsError}
use Rattle.pam_facts.specs.declared.known.error.KnownError.{KnownError}
use Rattle.pam_facts.specs.settings.Settings.{SettingText}
use Rattle.pam_paths.specs.Known.{may_answer}
use Rattle.pam_policy.specs.declared.host.stacks.ClassStack.{ClassStack}
use Rattle.pam_policy.specs.declared.host.stacks.ClassStack.TheVariants as classes
use Rattle.pam_policy.specs.declared.host.stacks.KnownStack.{KnownStack}
use Rattle.pam_policy.specs.declared.host.stacks.StackClass.{StackClass}
use Rattle.pam_policy.specs.host.HostStacks.{IsClassOf, IsFaultAt}
use Rattle.pam_policy.specs.host.Sources.{SourcesText, VisitorText}
use Rattle.pam_policy.specs.host.Stacks.{KnownSite}
use Rattle.pam_policy.specs.needs.Suggestions.{SaysRules}
use Rattle.pam_tables.specs.declared.times.moments.MomentError.{MomentError}
use Rattle.pam_report.specs.Fault.{facts_fault, known_fault}
use Rattle.pam_report.specs.Inputs.{facts_given, tables_given}
use Rattle.pam_report.specs.Policy.{are_keys, sources_by}
use Rattle.pam_report.specs.Reply.{Answer, Needs, NeedsValue}
use Rattle.pam_report.specs.declared.fault.Fault.TheVariants as faults
use Rattle.pam_report.specs.declared.inputs.Inputs.{Inputs}

-- the service as the words give it, the kind, whose login the tables are asked about, what is set for modules, and the moment, if one is
-- given
pub record NeedsText : Type 0 where
  pub service : List ℕ
  pub kind : Kind
  pub visitor : VisitorText
  pub settings : List SettingText
  pub moment : Option (Result DateTime MomentError)

-- what rules are judged by at a known stack: its modules, the facts and the answers that these may give
abbrev pub known_site_of : Kind → List Row → KnownStack → KnownSite
known_site_of kind facts found = record {
  site = record { kind = kind; items = found.stack; rows = facts };
  allows = may_answer found.known;
}

-- THE RULES that hold of a known stack, or that no answers let anybody in
pub record AreNeeds (service : List ℕ) (kind : Kind) (facts : List Row) (found : KnownStack) (value : NeedsValue) : Type 0 where
  pub same_service : value.service ≡ service
  pub same_kind : value.kind ≡ kind
  pub same_items : value.items ≡ found.stack
  pub says : SaysRules (known_site_of kind facts found) value.rules

-- what is answered by what is known of the stack: the fault for which it is refused, that its runs are too many, or the rules
abbrev pub IsByClass : List ℕ → Kind → List Row → ClassStack → Answer → Type 0
IsByClass service kind facts (classes.Refused error) answer = answer ≡ Err (faults.Conf error)
IsByClass service kind facts classes.TooLarge answer = answer ≡ Err faults.TooManyStates
IsByClass service kind facts (classes.Known found) (Ok (Needs value)) = AreNeeds service kind facts found value
IsByClass service kind facts (classes.Known found) answer = ⊥

-- the same of the class of the stack of a service, which is lowercased
pub record IsOfClass (service : List ℕ) (kind : Kind) (facts : List Row) (sources : SourcesText) (answer : Answer) : Type 0 where
  pub class : StackClass
  pub is_class : IsClassOf sources (map to_ascii_lowercase service) kind class
  pub is_answer : IsByClass service kind facts class.stack answer

-- the fault of a table at that stack
pub record IsOfTable (service : List ℕ) (kind : Kind) (sources : SourcesText) (answer : Answer) : Type 0 where
  pub error : KnownError
  pub is_fault : IsFaultAt sources (map to_ascii_lowercase service) kind error
  pub is_answer : answer ≡ Err (known_fault error)

-- the answer of these sources: the fault of a table, or what the class of the stack gives
abbrev pub IsFrom : List ℕ → Kind → List Row → SourcesText → Answer → Type 0
IsFrom service kind facts sources answer = IsOfTable service kind sources answer ⊎ IsOfClass service kind facts sources answer

module _ (asked : NeedsText) (files : Folder) (inputs : Inputs) where
  -- a key comes before the tables and the configuration
  abbrev pub IsKeyed : Bool → List Row → Option DateTime → Answer → Type 0
  IsKeyed false facts moment answer = answer ≡ Err faults.NoSuchKey
  IsKeyed true facts moment answer =
      IsFrom asked.service asked.kind facts (sources_by files asked.visitor asked.settings (tables_given inputs (Some facts) moment)) answer

  -- a given moment must be valid even if no table needs it, and comes before the keys
  abbrev pub IsTimed : Option (Result DateTime MomentError) → List Row → Answer → Type 0
  IsTimed None facts answer = IsKeyed (are_keys files asked.settings) facts None answer
  IsTimed (Some (Ok moment)) facts answer = IsKeyed (are_keys files asked.settings) facts (Some moment) answer
  IsTimed (Some (Err e)) facts answer = answer ≡ Err (faults.Moment e)

  -- a fault of the facts file comes before the moment
  abbrev pub IsByFacts : Result (List Row) FactsError → Answer → Type 0
  IsByFacts (Err e) answer = answer ≡ Err (facts_fault e)
  IsByFacts (Ok facts) answer = IsTimed asked.moment facts answer

  -- THE REPLY of `needs`
  abbrev pub IsNeeds : Answer → Type 0
  IsNeeds answer = IsByFacts (known_rows (facts_given inputs)) answer
