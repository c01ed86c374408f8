-- the places of the rules so far
use Rattle.std.proofs.Common.{◌≡◌, map, take}
use Rattle.pam_render.specs.parts.Policy.{spoken}
use Rattle.pam_render.specs.parts.PolicyView.{rule_view}
use Rattle.pam_render.proofs.parts.policy.told.spoken_count.Given as goal

abbrev pub invariant-loop-rule : goal.invariant-loop-rule
invariant-loop-rule l = l.spoken ≡ spoken (map rule_view (take l.rule-index l.rules))
