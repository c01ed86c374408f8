use Rattle.std.proofs.Common.{◌≡◌, ◌++◌, map}
use Rattle.pam_policy.specs.names.Host.{host_view}
use Rattle.pam_policy.specs.names.Misnamed.{module_names}
use Rattle.pam_policy.proofs.names.modules.module_names.Given as goal

-- the names so far, and those of the rows that are left
abbrev pub invariant-loop-name : goal.invariant-loop-name
invariant-loop-name l = map (λ name. name.now) l.names.items ++ l.name-iterator ≡ module_names (host_view l.host) l.is_strict
