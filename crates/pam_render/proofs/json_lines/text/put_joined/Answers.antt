use Rattle.std.proofs.Common.{◌++◌, codes}
use Rattle.std.specs.List.{flat_map}
use Rattle.std.specs.Str.Lossy.{utf8_lossy}
use Rattle.json.specs.Print.{escape}
use Rattle.pam_text.proofs.Writing.{err-front, front-is, front-longer, front-then, writes-is, writes-then}
use Rattle.pam_render.proofs.JsonLinesProofs.Strings.{joined-is}
use Rattle.pam_render.proofs.json_lines.text.put_joined.Goals as goal

pub returns-in_err-put : goal.returns-in_err-put
returns-in_err-put g c =
    let parts = c.args.parts.now in
    err-front _ c.from_residual.ensures.0
    (front-is (front-longer (flat_map (λ part. escape (utf8_lossy part.0.now)) parts ++ codes "\"") c.in_err-put.ensures) (joined-is parts))

pub returns-in_err-put_parts : goal.returns-in_err-put_parts
returns-in_err-put_parts g c =
    err-front _ c.from_residual-in_err-put_parts.ensures.0
    (front-is (front-then c.in_ok-put.ensures (front-longer (codes "\"") c.in_err-put_parts.ensures)) (joined-is c.args.parts.now))

pub returns : goal.returns
returns g c =
    writes-is _ _ _ _ _ _ (writes-then _ _ _ c.in_ok-put.ensures (writes-then _ _ _ c.in_ok-put_parts.ensures c.put-2.ensures))
    (joined-is c.args.parts.now)
