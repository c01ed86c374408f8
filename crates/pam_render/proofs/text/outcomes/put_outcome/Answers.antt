use Rattle.std.proofs.Common.{refl}
use Rattle.pam_codes.proofs.Writing.{all-then, err-front, front-is, front-longer, front-then, writes-is, writes-then}
use Rattle.pam_render.proofs.TextProofs.OutcomeTexts.{outcome_line-is}
use Rattle.pam_report.specs.ReplyViews.{outcome_view}
use Rattle.pam_render.proofs.text.outcomes.put_outcome.Goals as goal

pub returns-in_err-put-2 : goal.returns-in_err-put-2
returns-in_err-put-2 g c =
    let o = outcome_view c.args.outcome.now in
    err-front _ c.from_residual-in_err-put-2.ensures.0
    (front-is (front-longer _ (front-longer _ (front-longer _ (front-longer _ (front-longer _ (front-then c.in_ok-put.ensures c.in_err-put-2.ensures))))))
    (outcome_line-is c.args.modules.now o _ _ o.first.steps c.name_of.ensures refl refl))

pub returns-in_err-put_count : goal.returns-in_err-put_count
returns-in_err-put_count g c =
    let o = outcome_view c.args.outcome.now in
    err-front _ c.from_residual-in_err-put_count.ensures.0
    (front-is
    (front-longer _ (front-longer _ (front-longer _ (front-longer _
    (front-then (all-then c.in_ok-put.ensures c.in_ok-put-2.ensures) c.in_err-put_count.ensures)))))
    (outcome_line-is c.args.modules.now o _ _ o.first.steps c.name_of.ensures refl refl))

pub returns-in_err-put-3 : goal.returns-in_err-put-3
returns-in_err-put-3 g c =
    let o = outcome_view c.args.outcome.now in
    err-front _ c.from_residual-in_err-put-3.ensures.0
    (front-is
    (front-longer _ (front-longer _ (front-longer _
    (front-then (all-then (all-then c.in_ok-put.ensures c.in_ok-put-2.ensures) c.in_ok-put_count.ensures) c.in_err-put-3.ensures))))
    (outcome_line-is c.args.modules.now o _ _ o.first.steps c.name_of.ensures refl refl))

pub returns-in_err-write_text : goal.returns-in_err-write_text
returns-in_err-write_text g c =
    let o = outcome_view c.args.outcome.now in
    let before = all-then (all-then (all-then c.in_ok-put.ensures c.in_ok-put-2.ensures) c.in_ok-put_count.ensures) c.in_ok-put-3.ensures in
    err-front _ c.from_residual-in_err-write_text.ensures.0
    (front-is (front-longer _ (front-longer _ (front-then before c.in_err-write_text.ensures)))
    (outcome_line-is c.args.modules.now o _ _ o.first.steps c.name_of.ensures c.cursor.ensures.key refl))

pub returns-in_err-put_named_steps : goal.returns-in_err-put_named_steps
returns-in_err-put_named_steps g c =
    let o = outcome_view c.args.outcome.now in
    let before = all-then (all-then (all-then c.in_ok-put.ensures c.in_ok-put-2.ensures) c.in_ok-put_count.ensures) c.in_ok-put-3.ensures in
    err-front _ c.from_residual-in_err-put_named_steps.ensures.0
    (front-is (front-longer _ (front-then (all-then before c.in_ok-write_text.ensures) c.in_err-put_named_steps.ensures))
    (outcome_line-is c.args.modules.now o _ _ _ c.name_of.ensures c.cursor.ensures.key c.steps.ensures))

pub returns : goal.returns
returns g c =
    let o = outcome_view c.args.outcome.now in
    let before = all-then (all-then (all-then c.in_ok-put.ensures c.in_ok-put-2.ensures) c.in_ok-put_count.ensures) c.in_ok-put-3.ensures in
    writes-is _ _ _ _ _ _
    (writes-then _ _ _ (all-then (all-then before c.in_ok-write_text.ensures) c.in_ok-put_named_steps.ensures) c.put-4.ensures)
    (outcome_line-is c.args.modules.now o _ _ _ c.name_of.ensures c.cursor.ensures.key c.steps.ensures)
