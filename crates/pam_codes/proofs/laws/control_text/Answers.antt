use Rattle.pam_codes.proofs.WrittenPairs.{text_read}
use Rattle.pam_codes.proofs.laws.control_text.Goals as goal

pub returns : goal.returns
returns c = text_read
