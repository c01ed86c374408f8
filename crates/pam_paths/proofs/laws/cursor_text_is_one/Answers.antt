use Rattle.pam_paths.proofs.CursorTexts.{text_is_one}
use Rattle.pam_paths.proofs.laws.cursor_text_is_one.Goals as goal

pub returns : goal.returns
returns c = text_is_one
