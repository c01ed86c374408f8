-- the lines so far are written
use Rattle.std.proofs.Common.{take, map}
use Rattle.std.specs.List.{flat_map}
use Rattle.pam_codes.specs.Out.{TookAll}
use Rattle.pam_policy.specs.needs.Suggestions.{suggestion_view}
use Rattle.pam_report.specs.ReplyViews.{needs_view}
use Rattle.pam_render.specs.text.Needs.{rule_line}
use Rattle.pam_render.proofs.text.needs.put_each.Given as goal

abbrev pub invariant-loop-rule : goal.invariant-loop-rule
invariant-loop-rule g l =
    TookAll g.W.Write.contents l.initial.out l.out (flat_map (rule_line (needs_view l.reply)) (map suggestion_view (take l.rule-index l.rules)))
