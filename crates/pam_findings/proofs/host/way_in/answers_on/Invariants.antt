use Rattle.std.proofs.Common.{◌≡◌, map, take}
use Rattle.pam_paths.specs.Known.{may_answer}
use Rattle.pam_paths.specs.Steps.{step_seen}
use Rattle.pam_findings.specs.host.Verdicts.{answer_on}
use Rattle.pam_findings.proofs.host.way_in.answers_on.Given as goal

abbrev pub invariant-loop-step : goal.invariant-loop-step
invariant-loop-step l = l.answers.items ≡ map (answer_on (may_answer l.known)) (map step_seen (take l.step-index l.step-items))
