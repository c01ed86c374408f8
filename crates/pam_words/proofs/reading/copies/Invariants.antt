-- the bytes of the texts so far
use Rattle.std.proofs.Common.{◌≡◌, map, take}
use Rattle.pam_words.proofs.reading.copies.Given as goal

abbrev pub invariant-loop-text : goal.invariant-loop-text
invariant-loop-text l = l.copies ≡ map (λ s. s.now) (take l.text-index l.texts)
