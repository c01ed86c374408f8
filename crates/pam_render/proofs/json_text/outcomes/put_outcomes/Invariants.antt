-- the outcomes so far are written
use Rattle.std.proofs.Common.{take, map}
use Rattle.std.specs.List.{flat_map}
use Rattle.pam_codes.specs.Out.{TookAll}
use Rattle.pam_report.specs.ReplyViews.{outcome_view}
use Rattle.pam_render.specs.json_text.Outcomes.{outcome_json}
use Rattle.pam_render.proofs.json_text.outcomes.put_outcomes.Given as goal

abbrev pub invariant-loop-outcome : goal.invariant-loop-outcome
invariant-loop-outcome g l =
    TookAll g.W.Write.contents l.initial.out l.out (flat_map (outcome_json l.modules) (map outcome_view (take l.outcome-index l.outcomes)))
