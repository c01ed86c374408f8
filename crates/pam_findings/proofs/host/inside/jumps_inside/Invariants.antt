use Rattle.std.proofs.Common.{◌≡◌, ◌++◌, drop}
use Rattle.pam_findings.specs.host.inner.Insides.{jumps_from_all}
use Rattle.pam_findings.proofs.host.inside.jumps_inside.Given as goal

-- the spots so far, and those of the files that are left
abbrev pub invariant-loop-file : goal.invariant-loop-file
invariant-loop-file l =
    l.spots.items ++ jumps_from_all l.rules l.kind (drop l.file-index l.files) ≡ jumps_from_all l.rules l.kind l.files
