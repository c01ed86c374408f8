-- the first of the texts that are left is the first of all
use Rattle.std.proofs.Common.{◌≡◌, drop, find, map}
use Rattle.pam_words.specs.Mistakes.{gives_none}
use Rattle.pam_words.proofs.reading.mistakes.first_without.Given as goal

abbrev pub invariant-loop-text : goal.invariant-loop-text
invariant-loop-text l = find gives_none (map (λ s. s.now) (drop l.text-index l.texts)) ≡ find gives_none (map (λ s. s.now) l.texts)
