-- what comes first is written
use Rattle.pam_codes.specs.Out.{TookAll}
use Rattle.pam_drawing.proofs.picture.heading.put_each_column.Given as goal
use Rattle.pam_drawing.specs.picture.Picture.{column_text}
use Rattle.std.proofs.Common.{take}
use Rattle.std.specs.List.{flat_map, range_with_len}

abbrev pub invariant-loop-index : goal.invariant-loop-index
invariant-loop-index g l =
    TookAll g.W.Write.contents l.initial.out l.out (flat_map (column_text l.sheet.stack.now l.sheet.nodes.now l.sheet.layout.now) (take l.index
    (range_with_len 0 l.count)))
