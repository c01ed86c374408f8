-- the policies so far are judged, and those that are left follow
use Rattle.std.proofs.Common.{map}
use Rattle.std.specs.Vec.Iter.{into_iter_items}
use Rattle.pam_policy.specs.host.Told.{told_stacks}
use Rattle.pam_policy.specs.names.Host.{host_view}
use Rattle.pam_report.proofs.PolicySteps.{AreJudged}
use Rattle.pam_report.proofs.report.policy.judging.judge_each.Given as goal

abbrev pub invariant-loop-policy : goal.invariant-loop-policy
invariant-loop-policy l =
    AreJudged (map (λ n. n.now) l.names) (host_view l.host) (told_stacks l.facts l.stacks) l.judged.items
    (into_iter_items l.policy-iterator) l.fn.policies.items
