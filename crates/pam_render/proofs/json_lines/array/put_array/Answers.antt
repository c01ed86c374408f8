use Rattle.std.proofs.Common.{◌++◌, codes, false, map}
use Rattle.pam_text.proofs.Writing.{err-front, front-is, front-longer, front-then, writes-is, writes-then}
use Rattle.pam_render.specs.json_lines.Line.{separated}
use Rattle.pam_render.proofs.JsonLinesProofs.Arrays.{array-is}
use Rattle.pam_render.proofs.json_lines.array.put_array.Goals as goal

pub returns-in_err-put : goal.returns-in_err-put
returns-in_err-put g c =
    let values = map (g.E.Elements.element c.args.elements.now) c.args.items.now in
    err-front _ c.from_residual.ensures.0 (front-is (front-longer (separated false values ++ codes "]") c.in_err-put.ensures) (array-is values))

pub returns-in_err-put_more : goal.returns-in_err-put_more
returns-in_err-put_more g c =
    err-front _ c.from_residual-in_err-put_more.ensures.0
    (front-is (front-then c.in_ok-put.ensures (front-longer (codes "]") c.in_err-put_more.ensures))
    (array-is (map (g.E.Elements.element c.args.elements.now) c.args.items.now)))

pub returns : goal.returns
returns g c =
    writes-is _ _ _ _ _ _ (writes-then _ _ _ c.in_ok-put.ensures (writes-then _ _ _ c.in_ok-put_more.ensures c.put-2.ensures))
    (array-is (map (g.E.Elements.element c.args.elements.now) c.args.items.now))
