use Rattle.pam_released.proofs.WordTexts.{plain_word}
use Rattle.pam_released.proofs.texts.split_plain.Goals as goal

pub returns-clause-value : goal.returns-clause-value
returns-clause-value c = λ feed. rw (c.split_at.ensures.front, c.split_at.ensures.back, c.plain_len.ensures.value) (plain_word feed c.args.bytes.now)
