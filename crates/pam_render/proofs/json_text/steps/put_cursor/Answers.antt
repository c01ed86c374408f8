use Rattle.std.proofs.Common.{◌≡◌, ◌++◌, List, ℕ, codes, sym}
use Rattle.json.specs.Print.{quoted}
use Rattle.pam_codes.proofs.Writing.{err-front, front-is, front-longer, front-then, writes-is, writes-then}
use Rattle.pam_render.proofs.JsonLinesProofs.Plain.{quoted-plain}
use Rattle.pam_render.proofs.JsonTextProofs.PlainTexts.{cursor-plain}
use Rattle.pam_paths.specs.CursorText.{cursor_text}
use Rattle.pam_render.proofs.json_text.steps.put_cursor.Goals as goal

text-is : (cursor : List ℕ) → codes "\"" ++ (cursor_text cursor ++ codes "\"") ≡ quoted (cursor_text cursor)
text-is cursor = sym (quoted-plain (cursor_text cursor) (cursor-plain cursor))

pub returns-in_err-put : goal.returns-in_err-put
returns-in_err-put g c =
    err-front _ c.from_residual.ensures.0
    (front-is (front-longer (cursor_text c.args.cursor.now ++ codes "\"") c.in_err-put.ensures) (text-is _))

pub returns-in_err-write_text : goal.returns-in_err-write_text
returns-in_err-write_text g c =
    err-front _ c.from_residual-in_err-write_text.ensures.0
    (front-is (front-then c.in_ok-put.ensures (front-longer (codes "\"") c.in_err-write_text.ensures)) (text-is _))

pub returns : goal.returns
returns g c =
    writes-is _ _ _ _ _ _ (writes-then _ _ _ c.in_ok-put.ensures (writes-then _ _ _ c.in_ok-write_text.ensures c.put-2.ensures))
    (text-is _)
