-- the rules of the rows that are not left are written
use Rattle.std.proofs.Common.{◌≡◌, ◌++◌, ℕ, List, false}
use Rattle.pam_explain.specs.Explanations.{explanations}
use Rattle.pam_render.proofs.JsonLinesProofs.Kept.{kept_text}
use Rattle.pam_render.specs.sarif.Rules.{is_rule, rule_object}
use Rattle.pam_report.specs.ReplyViews.{check_view}
use Rattle.pam_text.specs.Out.{TookAll}
use Rattle.pam_render.proofs.sarif.rules.put_all_rules.Given as goal

abbrev pub invariant-loop-explanation : goal.invariant-loop-explanation
invariant-loop-explanation g l = record {
  front : List ℕ;
  parts : front ++ kept_text rule_object (is_rule (check_view l.reply)) l.later l.explanation-iterator
      ≡ kept_text rule_object (is_rule (check_view l.reply)) false explanations;
  took : TookAll g.W.Write.contents l.initial.out l.out front;
}
