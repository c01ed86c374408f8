-- the first of the words that are left is the first of all
use Rattle.std.proofs.Common.{◌≡◌, drop, find, map}
use Rattle.pam_words.specs.Mistakes.{is_folder}
use Rattle.pam_words.proofs.reading.mistakes.first_folder.Given as goal

abbrev pub invariant-loop-word : goal.invariant-loop-word
invariant-loop-word l = find is_folder (map (λ s. s.now) (drop l.word-index l.words)) ≡ find is_folder (map (λ s. s.now) l.words)
