-- the modules so far are written
use Rattle.std.proofs.Common.{take, map}
use Rattle.pam_codes.specs.Out.{TookAll}
use Rattle.pam_render.specs.text.Decide.{trace_text}
use Rattle.pam_report.specs.ReplyViews.{asked_view}
use Rattle.pam_render.proofs.text.decide.put_trace.Given as goal

abbrev pub invariant-loop-module : goal.invariant-loop-module
invariant-loop-module g l = TookAll g.W.Write.contents l.initial.out l.out (trace_text (map asked_view (take l.module-index l.asked)))
