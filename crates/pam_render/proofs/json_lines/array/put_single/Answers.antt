use Rattle.std.proofs.Common.{◌++◌, codes}
use Rattle.serde_json.specs.Written.{compact_text}
use Rattle.pam_text.proofs.Writing.{err-front, front-longer, front-then, writes-then}
use Rattle.pam_render.proofs.json_lines.array.put_single.Goals as goal

pub returns-in_err-put : goal.returns-in_err-put
returns-in_err-put g c =
    err-front _ c.from_residual.ensures.0 (front-longer (compact_text (g.V.Written.value c.args.value.now) ++ codes "]") c.in_err-put.ensures)

pub returns-in_err-put-2 : goal.returns-in_err-put-2
returns-in_err-put-2 g c =
    err-front _ c.from_residual-in_err-put-2.ensures.0 (front-then c.in_ok-put.ensures (front-longer (codes "]") c.in_err-put-2.ensures))

pub returns : goal.returns
returns g c = writes-then _ _ _ c.in_ok-put.ensures (writes-then _ _ _ c.in_ok-put-2.ensures c.put-3.ensures)
