-- what comes first is written
use Rattle.pam_codes.specs.Out.{TookAll}
use Rattle.pam_drawing.proofs.picture.svg.put_each_note.Given as goal
use Rattle.pam_drawing.specs.picture.Picture.{note_text}
use Rattle.std.proofs.Common.{take}
use Rattle.std.specs.List.{flat_map}

abbrev pub invariant-loop-note : goal.invariant-loop-note
invariant-loop-note g l = TookAll g.W.Write.contents l.initial.out l.out (flat_map note_text (take l.note-index l.notes))
