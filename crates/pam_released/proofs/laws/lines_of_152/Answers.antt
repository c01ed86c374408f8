use Rattle.std.proofs.Common.{◌∙◌}
use Rattle.pam_released.proofs.Buffer.{unseen}
use Rattle.pam_released.proofs.Lines152.{lines_alike}
use Rattle.pam_released.proofs.Silence.{silent}
use Rattle.pam_released.proofs.laws.lines_of_152.Goals as goal

pub returns : goal.returns
returns c = record {
  lines = λ form bytes h. let s = silent form bytes h in unseen bytes s.short ∙ lines_alike bytes s.lines;
  buffer = λ form bytes h. unseen bytes (silent form bytes h).short;
}
