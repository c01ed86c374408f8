-- what comes first is written
use Rattle.pam_codes.specs.Out.{TookAll}
use Rattle.pam_drawing.proofs.picture.heading.put_each_bracket.Given as goal
use Rattle.pam_drawing.specs.picture.Picture.{bracket_text}
use Rattle.std.proofs.Common.{take}
use Rattle.std.specs.List.{flat_map}

abbrev pub invariant-loop-bracket : goal.invariant-loop-bracket
invariant-loop-bracket g l = TookAll g.W.Write.contents l.initial.out l.out (flat_map bracket_text (take l.bracket-index l.brackets))
