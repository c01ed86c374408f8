use Rattle.pam_released.proofs.Buffer.{unseen}
use Rattle.pam_released.proofs.Silence.{silent}
use Rattle.pam_released.proofs.Words.{file_words_152, file_words_170}
use Rattle.pam_released.proofs.laws.words_of_a_file.Goals as goal

pub returns : goal.returns
returns c = record {
  older = λ form bytes words h w. let s = silent form bytes h in
      file_words_152 bytes words s.lines (unseen bytes s.short) w;
  newer = λ form bytes words h w. let s = silent form bytes h in file_words_170 bytes words s.lines s.blanks w;
}
