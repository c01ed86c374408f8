use Rattle.std.proofs.Common.{◌≡◌, ◌++◌, length}
use Rattle.pam_released.specs.Words.{Outside, texts_in}
use Rattle.pam_released.proofs.texts.words_before.Given as goal

abbrev pub invariant-loop-first : goal.invariant-loop-first
invariant-loop-first l = l.texts ++ texts_in l.feed Outside l.rest ≡ texts_in l.feed Outside l.line

abbrev pub decreases-loop-first : goal.decreases-loop-first
decreases-loop-first l = length l.rest
