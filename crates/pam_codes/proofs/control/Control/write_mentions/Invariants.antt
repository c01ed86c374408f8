-- the pairs of the codes so far are written
use Rattle.std.proofs.Common.{take}
use Rattle.pam_codes.specs.Code.{code_names}
use Rattle.pam_codes.specs.ControlText.{mentions}
use Rattle.pam_text.specs.Out.{TookAll}
use Rattle.pam_codes.proofs.control.Control.write_mentions.Given as goal

abbrev pub invariant-loop-number : goal.invariant-loop-number
invariant-loop-number g l = TookAll g.W.Write.contents l.initial.out l.out (mentions l.default (take l.number code_names) (take l.number l.self))
