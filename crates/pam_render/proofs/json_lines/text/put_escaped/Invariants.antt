-- the bytes so far are written
use Rattle.std.proofs.Common.{take}
use Rattle.json.specs.Print.{escape}
use Rattle.pam_text.specs.Out.{TookAll}
use Rattle.pam_render.proofs.json_lines.text.put_escaped.Given as goal

abbrev pub invariant-loop-byte : goal.invariant-loop-byte
invariant-loop-byte g l = TookAll g.W.Write.contents l.initial.out l.out (escape (take l.byte-index l.text))
