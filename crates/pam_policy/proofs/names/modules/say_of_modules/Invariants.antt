use Rattle.std.proofs.Common.{◌≡◌, drop, map}
use Rattle.pam_policy.specs.names.Host.{host_view}
use Rattle.pam_policy.specs.names.Misnamed.{of_modules}
use Rattle.pam_policy.specs.names.Placed.{placed_view}
use Rattle.pam_policy.specs.names.Words.{misnamed_view, saying}
use Rattle.pam_policy.proofs.names.modules.say_of_modules.Given as goal

-- what is said so far, and of the events that are left
abbrev pub invariant-loop-placed : goal.invariant-loop-placed
invariant-loop-placed l =
    saying (map misnamed_view l.said.items) (of_modules (host_view l.host) (map placed_view (drop l.placed-index l.events)))
    ≡ saying (map misnamed_view l.initial.said.items) (of_modules (host_view l.host) (map placed_view l.events))
