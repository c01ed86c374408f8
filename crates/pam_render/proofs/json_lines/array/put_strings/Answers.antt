use Rattle.std.proofs.Common.{false, map}
use Rattle.serde_json.specs.Written.{items_text}
use Rattle.pam_text.proofs.Writing.{err-front, front-longer, writes-then}
use Rattle.pam_render.specs.json_lines.Line.{items_of, readable}
use Rattle.pam_render.proofs.json_lines.array.put_strings.Goals as goal

pub returns-in_err-put : goal.returns-in_err-put
returns-in_err-put g c = err-front _ c.from_residual.ensures.0 (front-longer (items_text false (items_of (map readable c.args.texts.now))) c.in_err-put.ensures)

pub returns : goal.returns
returns g c = writes-then _ _ _ c.in_ok-put.ensures c.put_all_strings.ensures
