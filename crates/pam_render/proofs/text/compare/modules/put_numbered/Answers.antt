use Rattle.std.proofs.Common.{true}
use Rattle.std.specs.List.{flat_map}
use Rattle.pam_codes.proofs.Writing.{err-front, front-is, front-longer, writes-is, writes-then}
use Rattle.pam_render.specs.text.Compare.{numbered_text}
use Rattle.pam_render.proofs.TextProofs.CompareTexts.{numbered-is}
use Rattle.pam_render.proofs.text.compare.modules.put_numbered.Goals as goal

pub returns-in_err-put_numbered_one : goal.returns-in_err-put_numbered_one
returns-in_err-put_numbered_one g c =
    err-front _ c.from_residual.ensures.0
    (front-is
    (front-longer (flat_map (numbered_text c.args.place.now c.args.stack.now c.args.change.now true) c.in-Some.others.now) c.in_err-put_numbered_one.ensures)
    (numbered-is c.args.place.now c.args.stack.now c.args.change.now c.args.more _ _ _ c.in-Some.ensures.cases.0))

pub returns : goal.returns
returns g c =
    writes-is _ _ _ _ _ _ (writes-then _ _ _ c.in_ok-put_numbered_one.ensures c.put_next_numbered.ensures)
    (numbered-is c.args.place.now c.args.stack.now c.args.change.now c.args.more _ _ _ c.in-Some.ensures.cases.0)
