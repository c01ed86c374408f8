-- For private contracts and proofs alone: the reply of `policy`.
use Rattle.std.specs.Prelude.{◌≡◌, ◌⊎◌, ℕ, Bool, false, true, List, map, unwrap_or, Option, Result, Ok, Err}
use Rattle.std.specs.List.{range_with_len}
use Rattle.std.specs.Option.{option_map, option_map_or}
use Rattle.jiff.specs.Types.{DateTime}
use Rattle.pam_facts.specs.Rows.{Row}
use Rattle.pam_facts.specs.known.Tables.{TablesText}
use Rattle.pam_facts.specs.settings.Settings.{setting_view}
use Rattle.pam_policy.specs.declared.host.error.StacksError.{StacksError}
use Rattle.pam_policy.specs.declared.host.error.StacksError.TheVariants as errors
use Rattle.pam_policy.specs.declared.host.stacks.HostStacks.{HostStacks}
use Rattle.pam_policy.specs.declared.text.error.PolicyError.{PolicyError}
use Rattle.pam_policy.specs.declared.text.policy.Policy.{Policy}
use Rattle.pam_policy.specs.host.Findings.{FindingText}
use Rattle.pam_policy.specs.host.HostStacks.{AreHostStacks}
use Rattle.pam_policy.specs.host.Sources.{SourcesText}
use Rattle.pam_policy.specs.text.Rules.{RuleText, rule_view}
use Rattle.pam_words.specs.declared.wanted.LevelName.{LevelName}
use Rattle.pam_report.specs.Fault.{known_fault, policy_fault}
use Rattle.pam_report.specs.Finds.{Finds}
use Rattle.pam_report.specs.Inputs.{no_files, policies_given}
use Rattle.pam_report.specs.Memory.{Wants, of_paths, paths_tables}
use Rattle.pam_report.specs.Policy.{IsKeyed, IsRead, IsTableRefusal, PolicyText, are_keys, name_at, policies_of, sources_by, visitor_of}
use Rattle.pam_report.specs.PolicyLevels.{policy_level}
use Rattle.pam_report.specs.Reply.{counts}
use Rattle.pam_report.specs.declared.fault.Fault.{Fault}
use Rattle.pam_report.specs.declared.fault.Fault.TheVariants as faults
use Rattle.pam_report.specs.declared.report.policy.JudgedPolicy.{JudgedPolicy}
use Rattle.pam_report.specs.declared.report.policy.answering.PolicyRequest.{PolicyRequest}
use Rattle.pam_report.specs.declared.report.replies.Reply.{Reply}

-- what is found, if anything, counts
abbrev pub counts_if_found : LevelName → Option FindingText → Bool
counts_if_found fail_on found = option_map_or (λ finding. counts fail_on (policy_level finding)) found false

-- ---- rules

abbrev pub rules_read : List Policy → List (List RuleText)
rules_read policies = map (λ policy. map rule_view policy.rules.items) policies

-- the fault of the policy of a number
pub record IsOfPolicy (number : ℕ) (told : Result (List RuleText) PolicyError) (fault : Fault) : Type 0 where
  pub error : PolicyError
  pub told_is : told ≡ Err error
  pub same : fault ≡ policy_fault number error

-- the same of some policy
pub record IsOfSome (told : Result (List (List RuleText)) Fault) (fault : Fault) : Type 0 where
  pub number : ℕ
  pub error : PolicyError
  pub told_is : told ≡ Err (policy_fault number error)
  pub same : fault ≡ policy_fault number error

-- a fault of a policy, or a failed allocation
abbrev pub IsUnreadAlone : ℕ → Result (List RuleText) PolicyError → Fault → Type 0
IsUnreadAlone number told fault = (fault ≡ faults.Memory) ⊎ IsOfPolicy number told fault

abbrev pub IsUnread : Result (List (List RuleText)) Fault → Fault → Type 0
IsUnread told fault = (fault ≡ faults.Memory) ⊎ IsOfSome told fault

-- ---- requests

abbrev pub policy_text : PolicyRequest → PolicyText
policy_text asked = record {
  names = map (λ n. n.now) asked.names.now;
  fail_on = asked.fail_on;
  visitor = visitor_of asked.login;
  settings = map setting_view asked.settings.now;
  moment = asked.moment;
}

-- the files that are kept for the reply are those that are read
abbrev pub HasItsFiles : PolicyRequest → Type 0
HasItsFiles asked = unwrap_or (option_map (λ f. f.now) asked.kept) no_files ≡ asked.files.now

-- what may want memory, with or without a moment
abbrev pub asked_wants : PolicyRequest → Bool → Wants
asked_wants asked timed = of_paths (paths_tables timed asked.inputs.now)

-- ---- stacks

-- what the stacks are found from, with these tables
abbrev pub sources_with : PolicyRequest → TablesText → SourcesText
sources_with asked tables = sources_by asked.files.now (visitor_of asked.login) (map setting_view asked.settings.now) tables

-- the fault for which they are not found
abbrev pub fault_of_stacks : StacksError → Fault
fault_of_stacks (errors.Known error) = known_fault error
fault_of_stacks errors.Memory = faults.Memory

-- the stacks of a host, or the fault of a table, or a failed allocation
abbrev pub FindsStacks : SourcesText → Result HostStacks Fault → Type 0
FindsStacks sources (Ok stacks) = AreHostStacks sources stacks
FindsStacks sources (Err fault) = (fault ≡ faults.Memory) ⊎ IsTableRefusal sources fault

-- ---- what is judged

-- this number of policies have these names, in order
abbrev pub AreNamed : List (List ℕ) → ℕ → List JudgedPolicy → Type 0
AreNamed names count policies = map (λ p. p.name.now) policies ≡ map (name_at names) (range_with_len 0 count)

-- ---- replies

module _ (asked : PolicyRequest) (facts : List Row) where
  -- what the stacks say of these rules, where each key is the name of a module
  abbrev pub FindsPolicyOf : Option DateTime → List (List RuleText) → Result Reply Fault → Type 0
  FindsPolicyOf moment policies result =
      Finds result (IsKeyed (policy_text asked) asked.files.now asked.inputs.now true facts policies moment)

  -- the same, or that one is not
  abbrev pub FindsPolicyAt : Option DateTime → List (List RuleText) → Result Reply Fault → Type 0
  FindsPolicyAt moment policies result =
      let named = are_keys asked.files.now (map setting_view asked.settings.now) in
      Finds result (IsKeyed (policy_text asked) asked.files.now asked.inputs.now named facts policies moment)

  abbrev pub FindsByRules : Result Reply Fault → Type 0
  FindsByRules result =
      Finds result (IsRead (policy_text asked) asked.files.now asked.inputs.now (policies_of (policies_given asked.inputs.now)) facts)
