-- What the stacks of a host say of the rules of a policy.
use Rattle.std.specs.Prelude.{ℕ, Bool, true, false, List, [], ◌∷◌, fold, if◌then◌else◌, map, slice_get, unwrap_or, Option, Some, None}
use Rattle.std.specs.List.{list_any}
use Rattle.pam_conf.specs.declared.rule.Kind.{Kind}
use Rattle.pam_facts.specs.Rows.{Row}
use Rattle.pam_paths.specs.Known.{may_answer}
use Rattle.pam_text.specs.Members.{Member}
use Rattle.pam_policy.specs.declared.host.report.RuleReport.{RuleReport}
use Rattle.pam_policy.specs.declared.host.stacks.ClassStack.{ClassStack}
use Rattle.pam_policy.specs.declared.host.stacks.ClassStack.TheVariants as classes
use Rattle.pam_policy.specs.declared.host.stacks.HostPlace.{HostPlace}
use Rattle.pam_policy.specs.declared.host.stacks.HostStacks.{HostStacks}
use Rattle.pam_policy.specs.declared.host.stacks.StackClass.{StackClass}
use Rattle.pam_policy.specs.declared.host.standing.Standing.{Standing}
use Rattle.pam_policy.specs.declared.host.standing.Standing.TheVariants as standings
use Rattle.pam_policy.specs.declared.rules.error.JudgeError.{JudgeError}
use Rattle.pam_policy.specs.declared.rules.error.JudgeError.TheVariants as errors
use Rattle.pam_policy.specs.declared.rules.verdict.Verdict.{Verdict}
use Rattle.pam_policy.specs.declared.rules.verdict.Verdict.TheVariants as verdicts
use Rattle.pam_policy.specs.host.Places.{PlaceText, with_class}
use Rattle.pam_policy.specs.host.Reports.{IsReport}
use Rattle.pam_policy.specs.host.Stacks.{KnownSite, StacksText}
use Rattle.pam_policy.specs.names.Host.{HostText}
use Rattle.pam_policy.specs.rules.Judging.{IsReason}
use Rattle.pam_policy.specs.text.Rules.{RuleText}

-- a place with the name of its service
abbrev pub told_place : List (List ℕ) → HostPlace → PlaceText
told_place services place = record {
  service = unwrap_or (slice_get services place.service) [];
  kind = place.kind;
  class = place.class;
}

-- what is known of a class, with the facts of its modules; nothing where its stacks are refused, or too large
abbrev pub known_in : List Row → Kind → ClassStack → Option KnownSite
known_in rows kind (classes.Known known) =
    Some (record { site = record { kind = kind; items = known.stack; rows = rows }; allows = may_answer known.known })
known_in rows kind stack = None

abbrev pub told_class : List Row → StackClass → Option KnownSite
told_class rows class = known_in rows class.kind class.stack

-- THE STACKS OF A HOST AS RULES SEE THEM
abbrev pub told_stacks : List Row → HostStacks → StacksText
told_stacks rows stacks = record {
  places = map (told_place stacks.services) stacks.places.items;
  classes = map (told_class rows) stacks.classes.items;
}

-- THE REPORTS on rules: one on each, in their order
unfoldable pub AreReports : HostText → StacksText → List RuleText → List RuleReport → Type 0
AreReports host stacks [] [] = Unit {0}
AreReports host stacks (rule ∷ rules) (report ∷ reports) = IsReport host stacks rule report × AreReports host stacks rules reports
AreReports host stacks rules reports = ⊥

-- one of these rules is not judged, for this reason
pub record IsReasonOfOne (rules : List RuleText) (error : JudgeError) : Type 0 where
  pub rule : RuleText
  pub there : Member rule rules
  pub reason : IsReason rule.sentence error

-- WHY THERE ARE NO REPORTS: want of memory, or one of the rules is not judged
abbrev pub WhyNotJudged : List RuleText → JudgeError → Type 0
WhyNotJudged rules errors.Memory = Unit {0}
WhyNotJudged rules errors.TooManyTogether = IsReasonOfOne rules errors.TooManyTogether

-- ---- of a report

-- the rule does not hold at a class
abbrev pub is_refuted : Option Verdict → Bool
is_refuted (Some (verdicts.Broken run)) = true
is_refuted (Some verdicts.Impossible) = true
is_refuted verdict = false

-- nothing is known of a class
abbrev pub is_unjudged : Option Verdict → Bool
is_unjudged None = true
is_unjudged (Some verdict) = false

abbrev pub standing_by : Bool → Bool → Standing
standing_by refuted unjudged = if refuted then standings.Broken else if unjudged then standings.NotKnown else standings.Holds

-- HOW A RULE STANDS: it is broken if it does not hold at some class; else it is not known if nothing is known of some class; else it holds
abbrev pub standing_of : RuleReport → Standing
standing_of report =
    standing_by (list_any (λ class. is_refuted class.verdict) report.classes.items) (list_any (λ class. is_unjudged class.verdict) report.classes.items)

-- positions of places, and those of one more report, each once
unfoldable pub with_places : List ℕ → RuleReport → List ℕ
with_places places report = fold with_class places report.places.items
