-- the outcomes so far are written
use Rattle.std.proofs.Common.{take, map}
use Rattle.std.specs.List.{flat_map}
use Rattle.pam_codes.specs.Out.{TookAll}
use Rattle.pam_report.specs.ReplyViews.{outcome_view}
use Rattle.pam_render.specs.text.Outcomes.{outcome_line}
use Rattle.pam_render.proofs.text.outcomes.put_outcomes.Given as goal

abbrev pub invariant-loop-outcome : goal.invariant-loop-outcome
invariant-loop-outcome g l =
    TookAll g.W.Write.contents l.initial.out l.out (flat_map (outcome_line l.modules) (map outcome_view (take l.outcome-index l.outcomes)))
