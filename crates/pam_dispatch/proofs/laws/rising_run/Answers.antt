use Rattle.pam_dispatch.proofs.Numbering.{AsksRise-stack}
use Rattle.pam_dispatch.proofs.laws.rising_run.Goals as goal

pub returns : goal.returns
returns c = AsksRise-stack
