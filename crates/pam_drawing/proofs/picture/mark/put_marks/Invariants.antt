-- what comes first is written
use Rattle.pam_codes.specs.Out.{TookAll}
use Rattle.pam_drawing.proofs.picture.mark.put_marks.Given as goal
use Rattle.pam_drawing.specs.picture.inner.Marks.{mark_text}
use Rattle.std.proofs.Common.{take}
use Rattle.std.specs.List.{flat_map}

abbrev pub invariant-loop-mark : goal.invariant-loop-mark
invariant-loop-mark g l = TookAll g.W.Write.contents l.initial.out l.out (flat_map mark_text (take l.mark-index l.marks))
