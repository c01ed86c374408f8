-- the first of the texts that are left is the first of all
use Rattle.std.proofs.Common.{◌≡◌, drop, map}
use Rattle.pam_words.specs.Mistakes.{setting_mistake}
use Rattle.pam_words.proofs.reading.mistakes.setting_mistake.Given as goal

abbrev pub invariant-loop-text : goal.invariant-loop-text
invariant-loop-text l = setting_mistake (map (λ s. s.now) (drop l.text-index l.texts)) ≡ setting_mistake (map (λ s. s.now) l.texts)
