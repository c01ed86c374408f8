-- what comes first is written
use Rattle.pam_codes.specs.Out.{TookAll}
use Rattle.pam_codes.specs.declared.code.TheConstants.{CODES}
use Rattle.pam_drawing.proofs.picture.node.put_each_end.Given as goal
use Rattle.pam_drawing.specs.picture.Picture.{end_if_drawn}
use Rattle.std.proofs.Common.{take}
use Rattle.std.specs.List.{flat_map, range_with_len}

abbrev pub invariant-loop-number : goal.invariant-loop-number
invariant-loop-number g l =
    TookAll g.W.Write.contents l.initial.out l.out (flat_map (end_if_drawn l.layout l.drawn) (take l.number (range_with_len 0 CODES)))
