-- the lines so far are written
use Rattle.std.proofs.Common.{take}
use Rattle.pam_text.specs.Out.{TookAll}
use Rattle.pam_render.specs.parts.Compared.{guard_lines}
use Rattle.pam_render.specs.parts.ComparedView.{stack_view}
use Rattle.pam_render.proofs.parts.compared.pair.put_guards.Given as goal

abbrev pub invariant-loop-guarding : goal.invariant-loop-guarding
invariant-loop-guarding g l =
    TookAll g.W.Write.contents l.initial.out l.out (guard_lines g.L.CompareLines.line (stack_view l.stack) (take l.guarding-index l.guards))
