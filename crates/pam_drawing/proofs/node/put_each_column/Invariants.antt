-- what comes first is written
use Rattle.std.proofs.Common.{take}
use Rattle.std.specs.List.{flat_map, range_with_len}
use Rattle.pam_codes.specs.Out.{TookAll}
use Rattle.pam_drawing.specs.Drawing.{column_text}
use Rattle.pam_drawing.proofs.node.put_each_column.Given as goal

abbrev pub invariant-loop-number : goal.invariant-loop-number
invariant-loop-number g l = TookAll g.W.Write.contents l.initial.out l.out (flat_map column_text (take l.number (range_with_len 0 l.count)))
