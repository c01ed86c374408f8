use Rattle.std.proofs.Common.{◌≡◌, drop, filter, map}
use Rattle.std.specs.Prelude.{fold}
use Rattle.pam_conf.specs.Services.{each_once, with_name}
use Rattle.pam_policy.specs.names.Host.{host_view}
use Rattle.pam_policy.specs.names.Misnamed.{is_no_service}
use Rattle.pam_policy.proofs.names.services.missing.Given as goal

-- the names so far, and those that are left
abbrev pub invariant-loop-name : goal.invariant-loop-name
invariant-loop-name l =
    let wrong = filter (is_no_service (host_view l.host)) in
    fold with_name l.missing (wrong (map (λ name. name.now) (drop l.name-index l.names)))
    ≡ each_once (wrong (map (λ name. name.now) l.names))
