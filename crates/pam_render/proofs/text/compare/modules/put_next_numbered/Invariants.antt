-- the modules so far are written
use Rattle.std.proofs.Common.{take, true}
use Rattle.std.specs.List.{flat_map}
use Rattle.pam_codes.specs.Out.{TookAll}
use Rattle.pam_render.specs.text.Compare.{numbered_text}
use Rattle.pam_render.proofs.text.compare.modules.put_next_numbered.Given as goal

abbrev pub invariant-loop-number : goal.invariant-loop-number
invariant-loop-number g l =
    TookAll g.W.Write.contents l.initial.out l.out (flat_map (numbered_text l.place l.stack l.change true) (take l.number-index l.numbers))
