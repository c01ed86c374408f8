-- the steps so far are written
use Rattle.std.proofs.Common.{take, map}
use Rattle.std.specs.List.{flat_map}
use Rattle.pam_codes.specs.Out.{TookAll}
use Rattle.pam_paths.specs.Steps.{step_seen}
use Rattle.pam_render.specs.text.Outcomes.{next_step}
use Rattle.pam_render.proofs.text.outcomes.put_next_steps.Given as goal

abbrev pub invariant-loop-step : goal.invariant-loop-step
invariant-loop-step g l = TookAll g.W.Write.contents l.initial.out l.out (flat_map (next_step l.modules) (map step_seen (take l.step-index l.steps)))
