-- the modules so far are written
use Rattle.std.proofs.Common.{codes, take}
use Rattle.std.specs.List.{flat_map}
use Rattle.pam_codes.specs.Out.{TookAll}
use Rattle.pam_render.specs.sentences.Policy.{step_phrases}
use Rattle.pam_render.proofs.sentences.policy.run.put_next_steps.Given as goal

abbrev pub invariant-loop-step : goal.invariant-loop-step
invariant-loop-step g l =
    TookAll g.W.Write.contents l.initial.out l.out
    (flat_map (λ step. flat_map g.F.Phrases.text (step_phrases (codes ", ") l.stack step)) (take l.step-index l.steps))
