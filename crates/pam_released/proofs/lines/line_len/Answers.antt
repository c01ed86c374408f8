use Rattle.std.proofs.Common.{◌==◌}
use Rattle.pam_text.proofs.FirstBytes.{first_at, first_none}
use Rattle.pam_released.proofs.lines.line_len.Goals as goal

pub returns-in-Some-clause-value : goal.returns-in-Some-clause-value
returns-in-Some-clause-value c = first_at (λ b. b == 10) c.args.bytes.now c.memchr.result c.in-Some.index c.memchr.ensures c.in-Some.is

pub returns-in-None-clause-value : goal.returns-in-None-clause-value
returns-in-None-clause-value c = first_none (λ b. b == 10) c.args.bytes.now c.memchr.result c.memchr.ensures c.in-None.is
