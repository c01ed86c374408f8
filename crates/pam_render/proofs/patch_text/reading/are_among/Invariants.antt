-- what is left after the lines so far
use Rattle.std.proofs.Common.{◌≡◌, fold, take}
use Rattle.pam_render.specs.patch_text.Mended.{past}
use Rattle.pam_render.proofs.patch_text.reading.are_among.Given as goal

abbrev pub invariant-loop-other : goal.invariant-loop-other
invariant-loop-other l = l.left ≡ fold past l.initial.left (take l.other-index l.others)
