use Rattle.std.proofs.Common.{◌≡◌, map, drop}
use Rattle.std.specs.List.{list_any}
use Rattle.pam_conf.specs.inner.Kept.{kept_view}
use Rattle.pam_conf.specs.Walk.{carries}
use Rattle.pam_conf.proofs.resolution.carried_start.Given as goal

-- no rule so far names the service
abbrev pub invariant-loop-rule : goal.invariant-loop-rule
invariant-loop-rule l = list_any (carries l.service) (map kept_view l.rules) ≡ list_any (carries l.service) (map kept_view (drop l.rule-index l.rules))
