-- the levels so far are written
use Rattle.pam_codes.specs.Out.{TookAll}
use Rattle.pam_render.specs.text.Show.{indent}
use Rattle.pam_render.proofs.text.show.put_indent.Given as goal

abbrev pub invariant-loop : goal.invariant-loop
invariant-loop g l = TookAll g.W.Write.contents l.initial.out l.out (indent l.counter)
