-- the modules so far are written
use Rattle.std.proofs.Common.{take}
use Rattle.std.specs.List.{flat_map}
use Rattle.pam_codes.specs.Out.{TookAll}
use Rattle.pam_render.specs.text.Compare.{next_asked}
use Rattle.pam_render.proofs.text.compare.asked.put_next_asked.Given as goal

abbrev pub invariant-loop-module : goal.invariant-loop-module
invariant-loop-module g l = TookAll g.W.Write.contents l.initial.out l.out (flat_map (next_asked l.pair) (take l.module-index l.asked))
