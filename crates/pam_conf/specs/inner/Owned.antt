-- For private contracts and proofs alone: the words of which a rule keeps a copy: pam.conf(5), on brackets in arguments.
use Rattle.std.specs.Prelude.{ℕ, List}
use Rattle.pam_conf.specs.Remaining.{words_left}
use Rattle.pam_conf.specs.declared.words.OwnedWords.{OwnedWords}

abbrev pub owned_words : OwnedWords → List (List ℕ)
owned_words words = words_left words.bytes.items
