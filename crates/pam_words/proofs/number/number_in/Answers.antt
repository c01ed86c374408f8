use Rattle.std.proofs.Common.{arith}
use Rattle.pam_words.proofs.Numbers.{number_is, no_number}
use Rattle.pam_words.proofs.number.number_in.Goals as goal

pub returns-in_default : goal.returns-in_default
returns-in_default c = no_number c.args.text.now c.in_default.ensures.value.0

pub returns : goal.returns
returns c = number_is c.args.text.now c.in-Ok.number c.in-Ok.ensures.value.0.0 c.in-Ok.ensures.value.0.1 (omega arith) (omega arith)
