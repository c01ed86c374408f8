use Rattle.std.proofs.Common.{◌++◌, codes}
use Rattle.json.specs.Print.{escape}
use Rattle.pam_text.proofs.Writing.{err-front, front-longer, front-then, writes-then}
use Rattle.pam_render.proofs.json_lines.text.put_quoted.Goals as goal

pub returns-in_err-put : goal.returns-in_err-put
returns-in_err-put g c = err-front _ c.from_residual.ensures.0 (front-longer (escape c.args.text.now ++ codes "\"") c.in_err-put.ensures)

pub returns-in_err-put_escaped : goal.returns-in_err-put_escaped
returns-in_err-put_escaped g c =
    err-front _ c.from_residual-in_err-put_escaped.ensures.0 (front-then c.in_ok-put.ensures (front-longer (codes "\"") c.in_err-put_escaped.ensures))

pub returns : goal.returns
returns g c = writes-then _ _ _ c.in_ok-put.ensures (writes-then _ _ _ c.in_ok-put_escaped.ensures c.put-2.ensures)
