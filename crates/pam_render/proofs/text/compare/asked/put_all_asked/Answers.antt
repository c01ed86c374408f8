use Rattle.std.specs.List.{flat_map}
use Rattle.pam_codes.proofs.Writing.{err-front, front-is, front-longer, writes-is, writes-then}
use Rattle.pam_render.specs.text.Compare.{next_asked}
use Rattle.pam_render.proofs.TextProofs.CompareTexts.{asked-are}
use Rattle.pam_render.proofs.text.compare.asked.put_all_asked.Goals as goal

pub returns-in_err-put_asked : goal.returns-in_err-put_asked
returns-in_err-put_asked g c =
    err-front _ c.from_residual.ensures.0
    (front-is (front-longer (flat_map (next_asked c.args.pair.now) c.in-Some.others.now) c.in_err-put_asked.ensures)
    (asked-are c.args.pair.now _ _ _ c.in-Some.ensures.cases.0))

pub returns : goal.returns
returns g c =
    writes-is _ _ _ _ _ _ (writes-then _ _ _ c.in_ok-put_asked.ensures c.put_next_asked.ensures)
    (asked-are c.args.pair.now _ _ _ c.in-Some.ensures.cases.0)
