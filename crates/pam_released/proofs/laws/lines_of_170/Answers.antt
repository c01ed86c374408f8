use Rattle.pam_released.proofs.Lines170.{words_of_lines}
use Rattle.pam_released.proofs.Silence.{silent}
use Rattle.pam_released.proofs.laws.lines_of_170.Goals as goal

pub returns : goal.returns
returns c = λ form bytes h. let s = silent form bytes h in words_of_lines bytes s.lines s.blanks
