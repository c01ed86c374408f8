-- the modules so far are written
use Rattle.std.proofs.Common.{take, map}
use Rattle.pam_codes.specs.Out.{TookAll}
use Rattle.pam_render.specs.json_text.Decide.{steps_json}
use Rattle.pam_report.specs.ReplyViews.{asked_view}
use Rattle.pam_render.proofs.json_text.decide.put_steps.Given as goal

abbrev pub invariant-loop-module : goal.invariant-loop-module
invariant-loop-module g l = TookAll g.W.Write.contents l.initial.out l.out (steps_json (map asked_view (take l.module-index l.asked)))
