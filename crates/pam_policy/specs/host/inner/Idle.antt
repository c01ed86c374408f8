-- For private contracts and proofs alone: whether what a rule is about can be at some class.
use Rattle.std.specs.Prelude.{ℕ, Bool, true, false, List, Option, Some, None}
use Rattle.pam_text.specs.Members.{Member}
use Rattle.pam_policy.specs.declared.host.idle.Idle.{Idle}
use Rattle.pam_policy.specs.declared.host.report.ClassReport.{ClassReport}
use Rattle.pam_policy.specs.declared.rules.verdict.Verdict.{Verdict}
use Rattle.pam_policy.specs.declared.rules.verdict.Verdict.TheVariants.{Holds}
use Rattle.pam_policy.specs.host.Idle.{CanBe}
use Rattle.pam_policy.specs.host.Stacks.{KnownSite, StacksText, site_of}
use Rattle.pam_policy.specs.text.Sentences.{SentenceText}

-- no answers break the rule
abbrev pub is_holding : Option Verdict → Bool
is_holding (Some Holds) = true
is_holding verdict = false

abbrev pub holds : ClassReport → Bool
holds report = is_holding report.verdict

-- what a rule is about can be, where something is known
abbrev pub CanBeAt : Idle → Option KnownSite → SentenceText → Type 0
CanBeAt way (Some known) sentence = CanBe way known sentence
CanBeAt way None sentence = ⊥

-- it can be at one of these classes
pub record CanBeAmong (way : Idle) (stacks : StacksText) (sentence : SentenceText) (classes : List ℕ) : Type 0 where
  pub class : ℕ
  pub member : Member class classes
  pub can : CanBeAt way (site_of stacks class) sentence
