-- what comes first is written
use Rattle.std.proofs.Common.{take}
use Rattle.std.specs.List.{flat_map}
use Rattle.pam_codes.specs.Out.{TookAll}
use Rattle.pam_drawing.specs.Labels.{quoted_byte}
use Rattle.pam_drawing.proofs.label.put_label.Given as goal

abbrev pub invariant-loop-byte : goal.invariant-loop-byte
invariant-loop-byte g l = TookAll g.W.Write.contents l.initial.out l.out (flat_map (quoted_byte l.format) (take l.byte-index l.text))
