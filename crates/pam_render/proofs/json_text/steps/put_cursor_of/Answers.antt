use Rattle.std.proofs.Common.{List, ℕ, ap}
use Rattle.json.specs.Print.{quoted}
use Rattle.pam_codes.proofs.Writing.{writes-is}
use Rattle.pam_paths.specs.CursorText.{cursor_text}
use Rattle.pam_render.proofs.json_text.steps.put_cursor_of.Goals as goal

pub returns : goal.returns
returns g c = writes-is _ _ _ _ _ _ c.put_cursor.ensures (ap (λ (cursor : List ℕ). quoted (cursor_text cursor)) c.cursor.ensures.key)
