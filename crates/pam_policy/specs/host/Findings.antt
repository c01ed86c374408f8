-- The findings of a rule, P1 to P7.
use Rattle.std.specs.Prelude.{ℕ, List, [], ◌∷◌, ◌++◌, filter_map, map, Option, Some, None}
use Rattle.pam_policy.specs.declared.host.finding.Finding.{Finding}
use Rattle.pam_policy.specs.declared.host.finding.Finding.TheVariants as findings
use Rattle.pam_policy.specs.declared.host.idle.Idle.{Idle}
use Rattle.pam_policy.specs.declared.host.report.ClassReport.{ClassReport}
use Rattle.pam_policy.specs.declared.host.report.RuleReport.{RuleReport}
use Rattle.pam_policy.specs.declared.rules.verdict.Verdict.{Verdict}
use Rattle.pam_policy.specs.declared.rules.verdict.Verdict.TheVariants as verdicts
use Rattle.pam_policy.specs.names.Words.{MisnamedText, NoArgument, misnamed_view}
use Rattle.pam_policy.specs.search.Runs.{RunValue, run_value}

-- A FINDING: P1, a run breaks the rule at a class; P2, nothing does there what can be; P3, P4 and P7, a word names nothing; P5, the rule
-- says nothing; P6, nothing is known of a class
pub data FindingText : Type 0 where
  Broken : ℕ → RunValue → FindingText
  Impossible : ℕ → FindingText
  Misnamed : MisnamedText → FindingText
  SaysNothing : Idle → FindingText
  NotKnown : ℕ → FindingText

abbrev pub finding_view : Finding → FindingText
finding_view (findings.Broken class run) = Broken class (run_value run.now)
finding_view (findings.Impossible class) = Impossible class
finding_view (findings.Misnamed word) = Misnamed (misnamed_view word.now)
finding_view (findings.SaysNothing idle) = SaysNothing idle
finding_view (findings.NotKnown class) = NotKnown class

-- P1 or P2, of a class
abbrev pub by_verdict : ℕ → Option Verdict → Option FindingText
by_verdict class (Some (verdicts.Broken run)) = Some (Broken class (run_value run))
by_verdict class (Some verdicts.Impossible) = Some (Impossible class)
by_verdict class verdict = None

abbrev pub not_upheld : ClassReport → Option FindingText
not_upheld report = by_verdict report.class report.verdict

-- P6, of a class
abbrev pub unless_judged : ℕ → Option Verdict → Option FindingText
unless_judged class None = Some (NotKnown class)
unless_judged class (Some verdict) = None

abbrev pub not_known : ClassReport → Option FindingText
not_known report = unless_judged report.class report.verdict

-- P5
abbrev pub saying_nothing : Option Idle → List FindingText
saying_nothing None = []
saying_nothing (Some idle) = SaysNothing idle ∷ []

-- P3 or P4, of a word
abbrev pub of_name : MisnamedText → Option FindingText
of_name (NoArgument argument) = None
of_name word = Some (Misnamed word)

-- P7, of a word
abbrev pub of_argument : MisnamedText → Option FindingText
of_argument (NoArgument argument) = Some (Misnamed (NoArgument argument))
of_argument word = None

-- THE FINDINGS of a rule, in the order of their numbers, and then of the classes and the words
unfoldable pub findings_of : RuleReport → List FindingText
findings_of report =
    let words = map misnamed_view report.misnamed.items in
    filter_map not_upheld report.classes.items
    ++ filter_map of_name words
    ++ saying_nothing report.idle
    ++ filter_map not_known report.classes.items
    ++ filter_map of_argument words
