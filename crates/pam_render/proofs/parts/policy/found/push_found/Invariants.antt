-- the findings so far are told
use Rattle.std.proofs.Common.{◌≡◌, ◌++◌, map, take}
use Rattle.pam_policy.specs.host.Findings.{finding_view}
use Rattle.pam_render.specs.parts.Policy.{told_finding}
use Rattle.pam_render.specs.parts.PolicyView.{host_view, rule_view, told_view}
use Rattle.pam_render.proofs.parts.policy.found.push_found.Given as goal

abbrev pub invariant-loop-finding : goal.invariant-loop-finding
invariant-loop-finding l =
    map told_view l.found.items
    ≡ map told_view l.initial.found.items
    ++ map (λ finding. told_finding (host_view l.host) (rule_view l.rule) (finding_view finding)) (take l.finding-index l.finding-items)
