use Rattle.std.proofs.Common.{false, map}
use Rattle.serde_json.specs.Written.{members_text}
use Rattle.pam_text.proofs.Writing.{err-front, front-longer, writes-then}
use Rattle.pam_render.specs.json_lines.Line.{members_of}
use Rattle.pam_render.specs.json_lines.Values.{member_of}
use Rattle.pam_render.proofs.json_lines.value.put_object.Goals as goal

pub returns-in_err-put : goal.returns-in_err-put
returns-in_err-put g c =
    err-front _ c.from_residual.ensures.0
    (front-longer (members_text false (members_of (map (member_of g.V.Written.value) c.args.members.now))) c.in_err-put.ensures)

pub returns : goal.returns
returns g c = writes-then _ _ _ c.in_ok-put.ensures c.put_members.ensures
