use Rattle.std.proofs.Common.{◌≡◌}
use Rattle.pam_report.specs.Services.{has_services}
use Rattle.pam_report.proofs.services.has_all.Given as goal

-- the names that are left are services as all are
abbrev pub invariant-loop-name : goal.invariant-loop-name
invariant-loop-name l = has_services l.files l.name-iterator ≡ has_services l.files l.names
