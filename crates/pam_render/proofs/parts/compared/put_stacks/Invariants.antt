-- the lines of the stacks that are not left are written
use Rattle.std.proofs.Common.{◌≡◌, ◌++◌, ℕ, List, None, drop}
use Rattle.pam_report.specs.ReplyViews.{compare_view}
use Rattle.pam_text.specs.Out.{TookAll}
use Rattle.pam_render.specs.parts.Compared.{lines_after}
use Rattle.pam_render.proofs.parts.compared.put_stacks.Given as goal

abbrev pub invariant-loop-stack : goal.invariant-loop-stack
invariant-loop-stack g l = record {
  front : List ℕ;
  parts :
      front ++ lines_after g.L.CompareLines.line (compare_view l.reply) l.before (drop l.stack-index l.stacks)
      ≡ lines_after g.L.CompareLines.line (compare_view l.reply) None l.stacks;
  took : TookAll g.W.Write.contents l.initial.out l.out front;
}
