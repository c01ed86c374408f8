use Rattle.std.proofs.Common.{◌≡◌, ◌++◌, drop, map}
use Rattle.std.specs.Prelude.{All}
use Rattle.pam_policy.specs.host.Reports.{SaysOfClass}
use Rattle.pam_policy.specs.host.Stacks.{HaveGraphs, stacks_view}
use Rattle.pam_policy.specs.text.Sentences.{sentence_view}
use Rattle.pam_policy.proofs.host.report.reports_of.Given as goal

-- the classes so far, and those that are left; and what the classes so far say
abbrev pub invariant-loop-class : goal.invariant-loop-class
invariant-loop-class l = record {
  classes : map (λ report. report.class) l.reports.items ++ drop l.class-index l.classes ≡ l.classes;
  verdicts : HaveGraphs l.stacks.classes.now → All (SaysOfClass (stacks_view l.stacks) (sentence_view l.sentence)) l.reports.items;
}
