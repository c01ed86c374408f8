-- the codes so far are written, after the first
use Rattle.std.proofs.Common.{take}
use Rattle.pam_codes.specs.Out.{TookAll}
use Rattle.pam_paths.proofs.WrittenCursors.{dotted}
use Rattle.pam_paths.proofs.cursor.Cursor.write_text.Given as goal

abbrev pub invariant-loop-code : goal.invariant-loop-code
invariant-loop-code g l = TookAll g.W.Write.contents l.initial.out l.out (dotted (take l.code-index l.others))
