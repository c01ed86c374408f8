use Rattle.pam_policy.proofs.NamesProofs.Silence.{silence}
use Rattle.pam_policy.proofs.names.laws.silence_is_true.Goals as goal

pub returns : goal.returns
returns c = silence
