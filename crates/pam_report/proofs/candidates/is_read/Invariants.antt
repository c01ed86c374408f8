use Rattle.std.proofs.Common.{◌≡◌}
use Rattle.pam_report.specs.Candidates.{is_read}
use Rattle.pam_report.proofs.candidates.is_read.Given as goal

-- the services that are left read it as all do
abbrev pub invariant-loop-service : goal.invariant-loop-service
invariant-loop-service l = is_read l.rules l.service-iterator l.name ≡ is_read l.rules l.services l.name
