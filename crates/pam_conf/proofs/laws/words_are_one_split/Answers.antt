use Rattle.pam_conf.proofs.Splits.{is_split, is_words}
use Rattle.pam_conf.proofs.laws.words_are_one_split.Goals as goal

pub returns : goal.returns
returns c = λ line words. (is_split line words, is_words)
