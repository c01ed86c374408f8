use Rattle.std.proofs.Common.{arith}
use Rattle.pam_paths.proofs.CodeDigits.{no_length}
use Rattle.pam_paths.proofs.digits.code_of.Goals as goal

pub returns-in_default : goal.returns-in_default
returns-in_default c = no_length c.args.digits.now (λ one. omega arith) (λ two. omega arith)
