-- what comes first is written
use Rattle.std.proofs.Common.{take}
use Rattle.std.specs.List.{flat_map}
use Rattle.pam_codes.specs.Out.{TookAll}
use Rattle.pam_drawing.specs.Labels.{quoted}
use Rattle.pam_drawing.proofs.label.put_characters.Given as goal

abbrev pub invariant-loop-character : goal.invariant-loop-character
invariant-loop-character g l = TookAll g.W.Write.contents l.initial.out l.out (flat_map (quoted l.format) (take l.character-index l.characters))
