use Rattle.std.proofs.Common.{codes}
use Rattle.pam_codes.proofs.Writing.{all-then, err-front, front-is, front-longer, front-then, writes-is, writes-then}
use Rattle.pam_render.proofs.TextProofs.CheckTexts.{checked_line-is}
use Rattle.pam_render.specs.text.Check.{counted, levels_text}
use Rattle.pam_render.proofs.text.check.put_checked.Goals as goal

pub returns-in_err-put : goal.returns-in_err-put
returns-in_err-put g c =
    let first = front-longer (counted c.args.count c.args.name.now) c.in_err-put.ensures in
    let stacks = front-longer (counted c.args.stacks (codes "stack")) (front-longer (codes ", ") first) in
    err-front _ c.from_residual.ensures.0
    (front-is (front-longer (codes "\n") (front-longer (levels_text c.args.counts) (front-longer (codes ": ") stacks)))
    (checked_line-is c.args.count c.args.name.now c.args.stacks c.args.counts))

pub returns-in_err-put_counted : goal.returns-in_err-put_counted
returns-in_err-put_counted g c =
    err-front _ c.from_residual-in_err-put_counted.ensures.0
    (front-is
    (front-longer _ (front-longer _ (front-longer _ (front-longer _ (front-longer _ (front-then c.in_ok-put.ensures c.in_err-put_counted.ensures))))))
    (checked_line-is c.args.count c.args.name.now c.args.stacks c.args.counts))

pub returns-in_err-put-2 : goal.returns-in_err-put-2
returns-in_err-put-2 g c =
    let before = all-then c.in_ok-put.ensures c.in_ok-put_counted.ensures in
    err-front _ c.from_residual-in_err-put-2.ensures.0
    (front-is (front-longer _ (front-longer _ (front-longer _ (front-longer _ (front-then before c.in_err-put-2.ensures)))))
    (checked_line-is c.args.count c.args.name.now c.args.stacks c.args.counts))

pub returns-in_err-put_counted-2 : goal.returns-in_err-put_counted-2
returns-in_err-put_counted-2 g c =
    let before = all-then (all-then c.in_ok-put.ensures c.in_ok-put_counted.ensures) c.in_ok-put-2.ensures in
    err-front _ c.from_residual-in_err-put_counted-2.ensures.0
    (front-is (front-longer _ (front-longer _ (front-longer _ (front-then before c.in_err-put_counted-2.ensures))))
    (checked_line-is c.args.count c.args.name.now c.args.stacks c.args.counts))

pub returns-in_err-put-3 : goal.returns-in_err-put-3
returns-in_err-put-3 g c =
    let before = all-then (all-then (all-then c.in_ok-put.ensures c.in_ok-put_counted.ensures) c.in_ok-put-2.ensures) c.in_ok-put_counted-2.ensures in
    err-front _ c.from_residual-in_err-put-3.ensures.0
    (front-is (front-longer _ (front-longer _ (front-then before c.in_err-put-3.ensures)))
    (checked_line-is c.args.count c.args.name.now c.args.stacks c.args.counts))

pub returns-in_err-put_levels : goal.returns-in_err-put_levels
returns-in_err-put_levels g c =
    let before = all-then (all-then (all-then c.in_ok-put.ensures c.in_ok-put_counted.ensures) c.in_ok-put-2.ensures) c.in_ok-put_counted-2.ensures in
    err-front _ c.from_residual-in_err-put_levels.ensures.0
    (front-is (front-longer _ (front-then (all-then before c.in_ok-put-3.ensures) c.in_err-put_levels.ensures))
    (checked_line-is c.args.count c.args.name.now c.args.stacks c.args.counts))

pub returns : goal.returns
returns g c =
    let before = all-then (all-then (all-then c.in_ok-put.ensures c.in_ok-put_counted.ensures) c.in_ok-put-2.ensures) c.in_ok-put_counted-2.ensures in
    writes-is _ _ _ _ _ _ (writes-then _ _ _ (all-then (all-then before c.in_ok-put-3.ensures) c.in_ok-put_levels.ensures) c.put-4.ensures)
    (checked_line-is c.args.count c.args.name.now c.args.stacks c.args.counts)
