use Rattle.std.proofs.Common.{◌≡◌, ◌++◌, drop, map}
use Rattle.pam_words.specs.Candidates.{services_among}
use Rattle.pam_words.proofs.reading.candidates.copies.Given as goal

-- the names so far, and those of the words that are left
abbrev pub invariant-loop-word : goal.invariant-loop-word
invariant-loop-word l = l.names ++ services_among (map (λ s. s.now) (drop l.word-index l.words)) ≡ services_among (map (λ s. s.now) l.words)
