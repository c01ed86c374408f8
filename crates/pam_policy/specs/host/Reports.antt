-- What the stacks of a host say of a rule.
use Rattle.std.specs.Prelude.{◌≡◌, All, map, Option, Some, None}
use Rattle.pam_policy.specs.declared.host.report.ClassReport.{ClassReport}
use Rattle.pam_policy.specs.declared.host.report.RuleReport.{RuleReport}
use Rattle.pam_policy.specs.declared.rules.verdict.Verdict.{Verdict}
use Rattle.pam_policy.specs.host.Idle.{SaysIdle}
use Rattle.pam_policy.specs.host.Places.{spoken_classes, spoken_positions}
use Rattle.pam_policy.specs.host.Stacks.{KnownSite, StacksText, site_of, spoken_sites}
use Rattle.pam_policy.specs.names.Host.{HostText}
use Rattle.pam_policy.specs.names.Misnamed.{misnamed}
use Rattle.pam_policy.specs.names.Words.{misnamed_view}
use Rattle.pam_policy.specs.rules.Judging.{SaysVerdict}
use Rattle.pam_policy.specs.text.Rules.{RuleText}
use Rattle.pam_policy.specs.text.Sentences.{SentenceText}

-- a verdict where something is known, and none elsewhere
abbrev pub IsVerdict : Option KnownSite → SentenceText → Option Verdict → Type 0
IsVerdict (Some known) sentence (Some verdict) = SaysVerdict known.allows known.site sentence verdict
IsVerdict (Some known) sentence None = ⊥
IsVerdict None sentence (Some verdict) = ⊥
IsVerdict None sentence None = Unit {0}

-- what a class says of a rule
abbrev pub SaysOfClass : StacksText → SentenceText → ClassReport → Type 0
SaysOfClass stacks sentence report = IsVerdict (site_of stacks report.class) sentence report.verdict

-- THE REPORT on a rule: the places of which it speaks, what each of their classes says of it, whether it says nothing there, and which of
-- its words name nothing
pub record IsReport (host : HostText) (stacks : StacksText) (rule : RuleText) (report : RuleReport) : Type 0 where
  pub places : report.places.items ≡ spoken_positions rule stacks.places
  pub classes : map (λ of_class. of_class.class) report.classes.items ≡ spoken_classes rule stacks.places
  pub verdicts : All (SaysOfClass stacks rule.sentence) report.classes.items
  pub idle : SaysIdle (spoken_sites stacks rule) rule.sentence report.idle
  pub words : map misnamed_view report.misnamed.items ≡ misnamed host rule
