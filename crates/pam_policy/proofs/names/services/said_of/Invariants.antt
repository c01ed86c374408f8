use Rattle.std.proofs.Common.{◌≡◌, ◌++◌, map}
use Rattle.pam_policy.specs.names.Host.{host_view}
use Rattle.pam_policy.specs.names.Misnamed.{no_service}
use Rattle.pam_policy.specs.names.Words.{misnamed_view}
use Rattle.pam_policy.proofs.names.services.said_of.Given as goal

-- what is said so far, and what is to be said of the names that are left
abbrev pub invariant-loop-name : goal.invariant-loop-name
invariant-loop-name l =
    let say = no_service (host_view l.host) in
    map misnamed_view l.said.items ++ map say l.name-iterator ≡ map say l.missing
