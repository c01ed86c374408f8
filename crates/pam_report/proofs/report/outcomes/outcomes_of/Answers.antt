use Rattle.std.proofs.Common.{◌≡◌, ◌++◌, ◌∙◌, List, ap, arith, length, map}
use Rattle.pam_codes.specs.declared.code.TheConstants.{CODES}
use Rattle.pam_graph.specs.Goals.{fit}
use Rattle.pam_graph.specs.Walks.{walks}
use Rattle.pam_report.proofs.OutcomeLists.{outcomes-all, outcomes-more}
use Rattle.pam_paths.specs.Paths.{PathValue}
use Rattle.pam_report.specs.Outcomes.{outcome_among}
use Rattle.pam_report.specs.ReplyViews.{outcome_view}
use Rattle.pam_report.proofs.report.outcomes.outcomes_of.Goals as goal

pub loop-number-preserved : goal.loop-number-preserved
loop-number-preserved c =
    outcomes-more (outcome_among (walks c.args.graph.now)) c.loop-number.number _ _ _ c.loop-number.invariant c.code_numbered.ensures
    (c.in_ok-push_outcome.ensures
    ∙ ap (λ (ws : List PathValue). map outcome_view c.loop-number.found.items ++ outcome_among ws c.code_numbered.result) c.in_ok-decisions.ensures)

pub returns : goal.returns
returns c =
    let all : c.loop-number.number ≡ CODES = omega (arith, c.loop-number-test.false, c.loop-number.auto.number-end) in
    record {
      found = outcomes-all (walks c.args.graph.now) _ c.loop-number.number all c.loop-number.invariant;
      total = c.total-total.ensures ∙ ap (λ (ws : List PathValue). fit (length ws)) c.in_ok-decisions.ensures;
    }
