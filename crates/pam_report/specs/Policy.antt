-- The reply of `policy`: whether the rules of policies hold on a host.
use Rattle.std.specs.Prelude.{◌≡◌, ℕ, ◌+◌, suc, All, Bool, true, false, List, [], ◌∷◌, length, map, slice_get, unwrap_or}
use Rattle.std.specs.Prelude.{Option, Some, None, Result, Ok, Err}
use Rattle.std.specs.List.{list_all, range_with_len}
use Rattle.jiff.specs.Types.{DateTime}
use Rattle.pam_conf.specs.Files.{Folder}
use Rattle.pam_conf.specs.Services.{services_in}
use Rattle.pam_facts.specs.Reading.{known_rows}
use Rattle.pam_facts.specs.Rows.{Row}
use Rattle.pam_facts.specs.declared.error.FactsError.{FactsError}
use Rattle.pam_facts.specs.declared.known.error.KnownError.{KnownError}
use Rattle.pam_facts.specs.known.Tables.{TablesText}
use Rattle.pam_facts.specs.settings.Settings.{SettingText}
use Rattle.pam_policy.specs.declared.host.error.StacksError.TheVariants.{Known}
use Rattle.pam_policy.specs.declared.text.error.PolicyError.{PolicyError}
use Rattle.pam_policy.specs.host.HostStacks.{AreHostStacks, WhyNoStacks}
use Rattle.pam_policy.specs.host.Sources.{SourcesText, VisitorText}
use Rattle.pam_policy.specs.host.Stacks.{StacksText}
use Rattle.pam_policy.specs.host.Told.{AreReports, told_stacks}
use Rattle.pam_policy.specs.names.Calls.{calls_in}
use Rattle.pam_policy.specs.names.Host.{HostText}
use Rattle.pam_policy.specs.text.Policy.{rules_of}
use Rattle.pam_policy.specs.text.Rules.{RuleText, rule_view}
use Rattle.pam_tables.specs.declared.times.moments.MomentError.{MomentError}
use Rattle.pam_words.specs.declared.wanted.LevelName.{LevelName}
use Rattle.pam_words.specs.declared.wanted.Login.{Login}
use Rattle.pam_report.specs.ComparedKeys.{names_module_in}
use Rattle.pam_report.specs.Fault.{facts_fault, known_fault, policy_fault}
use Rattle.pam_report.specs.Inputs.{facts_given, policies_given, tables_given, there_given}
use Rattle.pam_report.specs.Reply.{Answer, Policy, PolicyValue}
use Rattle.pam_report.specs.declared.fault.Fault.{Fault}
use Rattle.pam_report.specs.declared.fault.Fault.TheVariants as faults
use Rattle.pam_report.specs.declared.inputs.Inputs.{Inputs}
use Rattle.pam_report.specs.declared.report.policy.JudgedPolicy.{JudgedPolicy}

-- ---- the rules of policies

-- the rules of a policy before those of later ones; its fault comes before theirs
abbrev pub onto_policies : List RuleText → Result (List (List RuleText)) Fault → Result (List (List RuleText)) Fault
onto_policies rules (Err fault) = Err fault
onto_policies rules (Ok others) = Ok (rules ∷ others)

-- the rules of the policy of a number, after `before` rules, and then those of later policies, which follow the rules of this one too
abbrev pub then_policies : ℕ → ℕ → Result (List RuleText) PolicyError → (ℕ → Result (List (List RuleText)) Fault) → Result (List (List RuleText)) Fault
then_policies number before (Err e) others = Err (policy_fault number e)
then_policies number before (Ok rules) others = onto_policies rules (others (before + length rules))

-- the rules of policies, the first of which has this number, after `before` rules
unfoldable pub policies_from : ℕ → List (List ℕ) → ℕ → Result (List (List RuleText)) Fault
policies_from number [] before = Ok []
policies_from number (bytes ∷ others) before = then_policies number before (rules_of bytes before) (policies_from (suc number) others)

-- THE RULES OF POLICIES, in their order, or the first fault of the first that has one
abbrev pub policies_of : List (List ℕ) → Result (List (List RuleText)) Fault
policies_of texts = policies_from 1 texts 0

-- ---- what is asked

-- what the stacks of a configuration are found from, for a visitor, with these tables and settings
abbrev pub sources_by : Folder → VisitorText → List SettingText → TablesText → SourcesText
sources_by files visitor settings tables = record { folder = files; visitor = visitor; tables = tables; settings = settings }

-- the names of the policies, the least level of a finding that makes the status a refusal, whose login the tables are asked about, what is
-- set for modules, and the moment, if one is given
pub record PolicyText : Type 0 where
  pub names : List (List ℕ)
  pub fail_on : LevelName
  pub visitor : VisitorText
  pub settings : List SettingText
  pub moment : Option (Result DateTime MomentError)

abbrev pub visitor_of : Login → VisitorText
visitor_of login = record { user = login.user.now; rhost = login.rhost.now; tty = login.tty.now }

-- the name of the policy at a position, empty if it has none
abbrev pub name_at : List (List ℕ) → ℕ → List ℕ
name_at names position = unwrap_or (slice_get names position) []

abbrev pub rules_in : JudgedPolicy → List RuleText
rules_in policy = map rule_view policy.rules.items

-- what the stacks of a host say of each rule of a policy
abbrev pub IsJudgedBy : HostText → StacksText → JudgedPolicy → Type 0
IsJudgedBy host stacks policy = AreReports host stacks (rules_in policy) policy.reports.items

-- what the words of policies speak of, by these facts
abbrev pub host_of : Folder → Inputs → List Row → HostText
host_of files inputs facts = record {
  services = services_in files.form files.entries;
  calls = calls_in files;
  known = map (λ row. row.name) facts;
  there = there_given inputs;
}

-- each key that is set is the name of a module that a rule without a fault calls
abbrev pub are_keys : Folder → List SettingText → Bool
are_keys files settings = list_all (names_module_in files files) settings

-- a fault of a table, met at the stack of some service for some kind
pub record IsTableRefusal (sources : SourcesText) (fault : Fault) : Type 0 where
  pub error : KnownError
  pub same : fault ≡ known_fault error
  pub met : WhyNoStacks sources (services_in sources.folder.form sources.folder.entries) (Known error)

module _ (asked : PolicyText) (files : Folder) (inputs : Inputs) where
  -- what the stacks are found from, by these facts and at this moment
  abbrev pub sources_of : List Row → Option DateTime → SourcesText
  sources_of facts moment = sources_by files asked.visitor asked.settings (tables_given inputs (Some facts) moment)

  -- the stacks of the host, and what these say of each rule of each policy
  pub record IsPolicyOf (facts : List Row) (moment : Option DateTime) (policies : List (List RuleText)) (value : PolicyValue) : Type 0 where
    pub same_files : value.files ≡ files
    pub same_level : value.fail_on ≡ asked.fail_on
    pub stacks : AreHostStacks (sources_of facts moment) value.stacks
    pub names : map (λ p. p.name.now) value.policies ≡ map (name_at asked.names) (range_with_len 0 (length policies))
    pub rules : map rules_in value.policies ≡ policies
    pub reports : All (IsJudgedBy (host_of files inputs facts) (told_stacks facts value.stacks)) value.policies

  -- a key comes before the tables
  abbrev pub IsKeyed : Bool → List Row → List (List RuleText) → Option DateTime → Answer → Type 0
  IsKeyed false facts policies moment answer = answer ≡ Err faults.NoSuchKey
  IsKeyed true facts policies moment (Ok (Policy value)) = IsPolicyOf facts moment policies value
  IsKeyed true facts policies moment (Err fault) = IsTableRefusal (sources_of facts moment) fault
  IsKeyed true facts policies moment answer = ⊥

  -- a given moment must be valid even if no table needs it, and comes before the keys
  abbrev pub IsTimed : Option (Result DateTime MomentError) → List Row → List (List RuleText) → Answer → Type 0
  IsTimed None facts policies answer = IsKeyed (are_keys files asked.settings) facts policies None answer
  IsTimed (Some (Ok moment)) facts policies answer = IsKeyed (are_keys files asked.settings) facts policies (Some moment) answer
  IsTimed (Some (Err e)) facts policies answer = answer ≡ Err (faults.Moment e)

  -- a fault of a policy comes before the moment
  abbrev pub IsRead : Result (List (List RuleText)) Fault → List Row → Answer → Type 0
  IsRead (Err fault) facts answer = answer ≡ Err fault
  IsRead (Ok policies) facts answer = IsTimed asked.moment facts policies answer

  -- a fault of the facts file comes before one of a policy
  abbrev pub IsByFacts : Result (List Row) FactsError → Answer → Type 0
  IsByFacts (Err e) answer = answer ≡ Err (facts_fault e)
  IsByFacts (Ok facts) answer = IsRead (policies_of (policies_given inputs)) facts answer

  -- THE REPLY of `policy`
  abbrev pub IsPolicy : Answer → Type 0
  IsPolicy answer = IsByFacts (known_rows (facts_given inputs)) answer
