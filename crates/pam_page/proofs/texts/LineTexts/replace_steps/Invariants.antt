-- the steps so far are kept
use Rattle.std.proofs.Common.{◌≡◌, ◌+◌, take, map}
use Rattle.pam_paths.specs.Steps.{step_seen}
use Rattle.pam_page.proofs.texts.LineTexts.replace_steps.Given as goal

abbrev pub invariant-loop-step : goal.invariant-loop-step
invariant-loop-step l = l.self ≡ take (l.count + l.step-index) (map step_seen l.steps)
