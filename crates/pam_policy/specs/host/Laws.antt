-- What the definitions imply.
use Rattle.std.specs.Prelude.{◌≡◌, ◌↔◌, ℕ, IsTrue, List, [], Option, Some, None}
use Rattle.pam_conf.specs.Stack.{IsNumbered}
use Rattle.pam_text.specs.Members.{Member}
use Rattle.pam_policy.specs.declared.host.idle.Idle.{Idle}
use Rattle.pam_policy.specs.declared.host.report.RuleReport.{RuleReport}
use Rattle.pam_policy.specs.host.Findings.{findings_of}
use Rattle.pam_policy.specs.host.Idle.{SaysIdle}
use Rattle.pam_policy.specs.host.Places.{PlaceText, speaks_of, spoken_classes}
use Rattle.pam_policy.specs.host.Reports.{IsReport}
use Rattle.pam_policy.specs.host.Stacks.{KnownSite, StacksText, site_of}
use Rattle.pam_policy.specs.names.Host.{HostText}
use Rattle.pam_policy.specs.names.Laws.{IsThere}
use Rattle.pam_policy.specs.rules.Judging.{IsUnsettled, IsWitness}
use Rattle.pam_policy.specs.search.Runs.{RunValue}
use Rattle.pam_policy.specs.text.Rules.{RuleText}
use Rattle.pam_policy.specs.text.Sentences.{SentenceText, Can}

-- a rule holds at a class: it is known, and what can be is shown by some allowed answers; any other rule is broken by none
abbrev pub IsUpheld : Option KnownSite → SentenceText → Type 0
IsUpheld None sentence = ⊥
IsUpheld (Some known) (Can c) = (run : RunValue) × IsWitness known.allows known.site (Can c) run
IsUpheld (Some known) sentence = IsUnsettled known.allows known.site sentence

-- WHAT SILENCE PROVES: if nothing is found, the host has what the rule names, and the rule holds at each place of which it speaks
pub record Holds (host : HostText) (stacks : StacksText) (rule : RuleText) : Type 0 where
  pub words : IsThere host rule
  pub upheld : (place : PlaceText) → Member place stacks.places → IsTrue (speaks_of rule place) → IsUpheld (site_of stacks place.class) rule.sentence

abbrev pub SilentRuleHolds : Type 0
SilentRuleHolds =
    (host : HostText) (stacks : StacksText) (rule : RuleText) (report : RuleReport) → IsReport host stacks rule report →
    findings_of report ≡ [] → Holds host stacks rule

-- a class is judged if and only if it is that of a place of which the rule speaks
pub record SpokenPlace (rule : RuleText) (places : List PlaceText) (class : ℕ) : Type 0 where
  pub place : PlaceText
  pub there : Member place places
  pub spoken : IsTrue (speaks_of rule place)
  pub is_class : class ≡ place.class

abbrev pub EachPlaceIsJudged : Type 0
EachPlaceIsJudged =
    (rule : RuleText) (places : List PlaceText) (class : ℕ) → Member class (spoken_classes rule places) ↔ SpokenPlace rule places class

-- nothing breaks a rule that is said to say nothing, at stacks whose modules are numbered
abbrev pub IdleRuleHolds : Type 0
IdleRuleHolds =
    (sites : List (Option KnownSite)) (sentence : SentenceText) (idle : Idle) (known : KnownSite) → SaysIdle sites sentence (Some idle) →
    Member (Some known) sites → IsNumbered known.site.items → IsUnsettled known.allows known.site sentence
