-- the lines are written, but for those that are left
use Rattle.std.proofs.Common.{length}
use Rattle.pam_render.proofs.TextProofs.ListTexts.{Partly}
use Rattle.pam_render.specs.text.Explain.{example_line, lines_of}
use Rattle.pam_render.proofs.text.explain.put_example_lines.Given as goal

abbrev pub invariant-loop-line : goal.invariant-loop-line
invariant-loop-line g l = Partly g.W.Write.contents example_line l.initial.out l.out (lines_of l.text) (lines_of l.rest)

abbrev pub decreases-loop-line : goal.decreases-loop-line
decreases-loop-line g l = length l.rest
