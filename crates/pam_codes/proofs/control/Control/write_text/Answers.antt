use Rattle.std.proofs.Common.{◌∙◌, sym}
use Rattle.pam_codes.proofs.ControlParts.{text_of_keyword, text_of_list}
use Rattle.pam_text.proofs.Writing.{writes-is}
use Rattle.pam_codes.proofs.control.Control.write_text.Goals as goal

pub returns-in-Some : goal.returns-in-Some
returns-in-Some g c =
    writes-is _ _ _ _ _ _ c.put.ensures (c.as_bytes.ensures.value ∙ sym (text_of_keyword c.args.self.now c.in-Some.word.now c.in-Some.ensures))

pub returns-in-None : goal.returns-in-None
returns-in-None g c = writes-is _ _ _ _ _ _ c.write_list.ensures (sym (text_of_list c.args.self.now c.in-None.ensures))
