use Rattle.std.proofs.Common.{◌∷◌, ap}
use Rattle.json.specs.Print.{quoted}
use Rattle.serde_json.specs.Written.{compact_text}
use Rattle.pam_text.proofs.Writing.{all-is, err-front, front-is, front-longer, front-then, writes-then}
use Rattle.pam_render.specs.json_lines.Values.{data_of}
use Rattle.pam_render.proofs.json_lines.value.put_member.Goals as goal

pub returns-in_err-put_quoted : goal.returns-in_err-put_quoted
returns-in_err-put_quoted g c =
    err-front _ c.from_residual.ensures.0
    (front-longer (58 ∷ compact_text (data_of g.V.Written.value c.args.member.now.value))
    (front-is c.in_err-put_quoted.ensures (ap quoted c.as_bytes.ensures.value)))

pub returns-in_err-put : goal.returns-in_err-put
returns-in_err-put g c =
    err-front _ c.from_residual-in_err-put.ensures.0
    (front-then (all-is c.in_ok-put_quoted.ensures (ap quoted c.as_bytes.ensures.value))
    (front-longer (compact_text (data_of g.V.Written.value c.args.member.now.value)) c.in_err-put.ensures))

pub returns : goal.returns
returns g c =
    writes-then _ _ _ (all-is c.in_ok-put_quoted.ensures (ap quoted c.as_bytes.ensures.value)) (writes-then _ _ _ c.in_ok-put.ensures c.put_value.ensures)
