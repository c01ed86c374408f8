-- what comes first is written
use Rattle.pam_codes.specs.Out.{TookAll}
use Rattle.pam_drawing.proofs.xml.put_characters.Given as goal
use Rattle.pam_drawing.specs.Escaped.{named}
use Rattle.std.proofs.Common.{take}
use Rattle.std.specs.List.{flat_map}

abbrev pub invariant-loop-character : goal.invariant-loop-character
invariant-loop-character g l = TookAll g.W.Write.contents l.initial.out l.out (flat_map named (take l.character-index l.characters))
