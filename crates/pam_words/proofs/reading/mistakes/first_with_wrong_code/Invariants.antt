-- the first of the texts that are left is the first of all
use Rattle.std.proofs.Common.{◌≡◌, drop, find, map, is_some}
use Rattle.pam_words.specs.Mistakes.{wrong_in_setting}
use Rattle.pam_words.proofs.reading.mistakes.first_with_wrong_code.Given as goal

abbrev pub invariant-loop-text : goal.invariant-loop-text
invariant-loop-text l = find (λ t. is_some (wrong_in_setting t)) (map (λ s. s.now) (drop l.text-index l.texts)) ≡ find (λ t. is_some (wrong_in_setting t)) (map (λ s. s.now) l.texts)
