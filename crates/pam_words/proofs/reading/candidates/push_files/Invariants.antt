use Rattle.std.proofs.Common.{◌≡◌, ◌++◌, drop, map}
use Rattle.pam_words.specs.Candidates.{files_among}
use Rattle.pam_words.specs.Wanted.{candidate_view}
use Rattle.pam_words.proofs.reading.candidates.push_files.Given as goal

-- what is given so far, and the files among the words that are left
abbrev pub invariant-loop-word : goal.invariant-loop-word
invariant-loop-word l =
    map candidate_view l.given.items ++ files_among (map (λ s. s.now) (drop l.word-index l.words))
    ≡ map candidate_view l.initial.given.items ++ files_among (map (λ s. s.now) l.words)
