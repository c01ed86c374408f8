use Rattle.std.proofs.Common.{◌≡◌, ◌++◌, drop, map}
use Rattle.pam_words.specs.Candidates.{given_by}
use Rattle.pam_words.specs.Wanted.{candidate_view}
use Rattle.pam_words.proofs.reading.candidates.push_texts.Given as goal

-- what is given so far, and by the texts that are left
abbrev pub invariant-loop-text : goal.invariant-loop-text
invariant-loop-text l =
    map candidate_view l.given.items ++ map given_by (map (λ s. s.now) (drop l.text-index l.texts))
    ≡ map candidate_view l.initial.given.items ++ map given_by (map (λ s. s.now) l.texts)
