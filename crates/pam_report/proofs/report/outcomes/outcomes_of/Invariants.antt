-- the outcomes so far are found
use Rattle.std.proofs.Common.{◌≡◌, map}
use Rattle.std.specs.List.{flat_map, range_with_len}
use Rattle.pam_graph.specs.Walks.{walks}
use Rattle.pam_report.specs.ReplyViews.{outcome_view}
use Rattle.pam_report.specs.Outcomes.{outcome_among}
use Rattle.pam_report.proofs.report.outcomes.outcomes_of.Given as goal

abbrev pub invariant-loop-number : goal.invariant-loop-number
invariant-loop-number l = map outcome_view l.found.items ≡ flat_map (outcome_among (walks l.graph)) (range_with_len 0 l.number)
