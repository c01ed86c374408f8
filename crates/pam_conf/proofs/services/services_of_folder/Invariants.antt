use Rattle.std.proofs.Common.{◌≡◌, ◌++◌, drop, filter, map}
use Rattle.pam_conf.specs.Services.{is_service}
use Rattle.pam_conf.proofs.services.services_of_folder.Given as goal

-- the services so far, and those of the files that are left
abbrev pub invariant-loop-position : goal.invariant-loop-position
invariant-loop-position l =
    l.names ++ filter is_service (map (λ f. f.0) (drop l.position l.files.entries)) ≡ filter is_service (map (λ f. f.0) l.files.entries)
