use Rattle.std.proofs.Common.{◌++◌, codes, map}
use Rattle.std.specs.Char.{to_ascii_lowercase}
use Rattle.json.specs.Print.{escape}
use Rattle.pam_text.proofs.Writing.{err-front, front-longer, front-then, writes-then}
use Rattle.pam_render.proofs.json_lines.text.put_lowercase.Goals as goal

pub returns-in_err-put : goal.returns-in_err-put
returns-in_err-put g c =
    err-front _ c.from_residual.ensures.0 (front-longer (escape (map to_ascii_lowercase c.args.text.now) ++ codes "\"") c.in_err-put.ensures)

pub returns-in_err-put_lowered : goal.returns-in_err-put_lowered
returns-in_err-put_lowered g c =
    err-front _ c.from_residual-in_err-put_lowered.ensures.0 (front-then c.in_ok-put.ensures (front-longer (codes "\"") c.in_err-put_lowered.ensures))

pub returns : goal.returns
returns g c = writes-then _ _ _ c.in_ok-put.ensures (writes-then _ _ _ c.in_ok-put_lowered.ensures c.put-2.ensures)
