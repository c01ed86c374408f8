-- the bytes so far are written
use Rattle.std.proofs.Common.{take}
use Rattle.pam_codes.specs.Out.{TookAll}
use Rattle.pam_render.specs.text.WordText.{escaped}
use Rattle.pam_render.proofs.text.word.put_escaped.Given as goal

abbrev pub invariant-loop-byte : goal.invariant-loop-byte
invariant-loop-byte g l = TookAll g.W.Write.contents l.initial.out l.out (escaped (take l.byte-index l.text))
