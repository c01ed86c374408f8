-- the lines so far are written
use Rattle.std.proofs.Common.{take}
use Rattle.pam_text.specs.Out.{TookAll}
use Rattle.pam_render.specs.parts.inner.Lines.{written}
use Rattle.pam_render.proofs.parts.findings.put_all_unused.Given as goal

abbrev pub invariant-loop-line : goal.invariant-loop-line
invariant-loop-line g l =
    TookAll g.W.Write.contents l.initial.out l.out (written g.L.CheckLines.line l.accept l.facts (take l.line-index l.unused))
