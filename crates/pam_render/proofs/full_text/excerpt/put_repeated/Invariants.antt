-- as many as were counted are written
use Rattle.pam_codes.specs.Out.{TookAll}
use Rattle.std.specs.Prelude.{replicate}
use Rattle.pam_render.proofs.full_text.excerpt.put_repeated.Given as goal

abbrev pub invariant-loop : goal.invariant-loop
invariant-loop g l = TookAll g.W.Write.contents l.initial.out l.out (replicate l.counter l.byte)
