use Rattle.std.proofs.Common.{false, map}
use Rattle.serde_json.specs.Written.{items_text}
use Rattle.pam_codes.proofs.Writing.{err-front, front-longer, writes-then}
use Rattle.pam_render.specs.json_text.Steps.{code_string}
use Rattle.pam_render.specs.json_lines.Line.{items_of}
use Rattle.pam_render.proofs.json_text.steps.CodeNamesWritten.put.Goals as goal

pub returns-in_err-put : goal.returns-in_err-put
returns-in_err-put g c =
    err-front _ c.from_residual.ensures.0 (front-longer (items_text false (items_of (map code_string c.args.self.now.0))) c.in_err-put.ensures)

pub returns : goal.returns
returns g c = writes-then _ _ _ c.in_ok-put.ensures c.put_codes.ensures
