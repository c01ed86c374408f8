use Rattle.std.proofs.Common.{codes}
use Rattle.pam_codes.proofs.Writing.{all-then, err-front, front-is, front-longer, front-then, writes-is, writes-then}
use Rattle.pam_render.specs.text.Check.{counted}
use Rattle.pam_render.proofs.TextProofs.CompareTexts.{only_count-is}
use Rattle.pam_render.proofs.text.compare.parts.put_only_count.Goals as goal

pub returns-in_err-put : goal.returns-in_err-put
returns-in_err-put g c =
    let place = c.args.place.now in
    err-front _ c.from_residual.ensures.0
    (front-is (front-longer place (front-longer (counted c.args.count (codes "service")) c.in_err-put.ensures))
    (only_count-is c.args.count place c.if-count-eq0.false))

pub returns-in_err-put_counted : goal.returns-in_err-put_counted
returns-in_err-put_counted g c =
    let place = c.args.place.now in
    err-front _ c.from_residual-in_err-put_counted.ensures.0
    (front-is (front-longer place (front-then c.in_ok-put.ensures c.in_err-put_counted.ensures)) (only_count-is c.args.count place c.if-count-eq0.false))

pub returns : goal.returns
returns g c =
    writes-is _ _ _ _ _ _ (writes-then _ _ _ (all-then c.in_ok-put.ensures c.in_ok-put_counted.ensures) c.put-2.ensures)
    (only_count-is c.args.count c.args.place.now c.if-count-eq0.false)
