-- the bytes so far are written
use Rattle.std.proofs.Common.{take, map}
use Rattle.std.specs.Char.{to_ascii_lowercase}
use Rattle.pam_codes.specs.Out.{TookAll}
use Rattle.pam_render.proofs.text.header.put_lowercase.Given as goal

abbrev pub invariant-loop-byte : goal.invariant-loop-byte
invariant-loop-byte g l = TookAll g.W.Write.contents l.initial.out l.out (map to_ascii_lowercase (take l.byte-index l.text))
