use Rattle.pam_tables.proofs.TokenSteps.{gap_ends}
use Rattle.pam_tables.proofs.tokens.has_token.Goals as goal

pub returns : goal.returns
returns c = gap_ends c.args.separators.now.bytes.now c.args.text.now c.gap_len.result c.gap_len.ensures.value
