use Rattle.std.proofs.Common.{◌≡◌, ◌++◌, not}
use Rattle.std.specs.List.{filter}
use Rattle.pam_report.specs.Left.{takes_unread}
use Rattle.pam_report.proofs.left.left_of.Given as goal

-- the services so far, and those that are left
abbrev pub invariant-loop-service : goal.invariant-loop-service
invariant-loop-service l =
    l.left ++ filter (λ service. not (takes_unread l.rules l.unread service)) l.service-iterator
    ≡ filter (λ service. not (takes_unread l.rules l.unread service)) l.services
