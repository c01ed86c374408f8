use Rattle.std.proofs.Common.{arith}
use Rattle.pam_words.proofs.SettingSteps.{no-sign}
use Rattle.pam_words.proofs.reading.settings.key_and_codes.Goals as goal

pub returns-in_default : goal.returns-in_default
returns-in_default c = no-sign c.args.text.now (c.in_default.ensures.byte (omega arith) (λ w o f. f))
