-- the lines so far are written
use Rattle.std.proofs.Common.{take}
use Rattle.std.specs.List.{flat_map}
use Rattle.pam_text.specs.Out.{TookAll}
use Rattle.pam_render.specs.parts.Compared.{Arguments}
use Rattle.pam_render.specs.parts.ComparedView.{head_view}
use Rattle.pam_render.proofs.parts.compared.pair.put_arguments.Given as goal

abbrev pub invariant-loop-modules : goal.invariant-loop-modules
invariant-loop-modules g l =
    TookAll g.W.Write.contents l.initial.out l.out
    (flat_map (λ m. g.L.CompareLines.line (Arguments (head_view l.stack.head) l.stack.pair.now m)) (take l.modules-index l.matched))
