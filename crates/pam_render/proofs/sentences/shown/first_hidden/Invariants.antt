-- the first hidden character is that of the bytes that are left
use Rattle.std.proofs.Common.{◌≡◌, length}
use Rattle.pam_render.specs.sentences.Shown.{first_hidden}
use Rattle.pam_render.proofs.sentences.shown.first_hidden.Given as goal

abbrev pub invariant-loop-after : goal.invariant-loop-after
invariant-loop-after l = first_hidden l.left ≡ first_hidden l.word

abbrev pub decreases-loop-after : goal.decreases-loop-after
decreases-loop-after l = length l.left
