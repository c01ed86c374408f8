use Rattle.std.proofs.Common.{◌≡◌, codes, drop, map}
use Rattle.pam_findings.specs.host.FolderProblems.{has_file, names_in}
use Rattle.pam_findings.proofs.host.folder.has_other.Given as goal

abbrev pub invariant-loop-position : goal.invariant-loop-position
invariant-loop-position l = has_file (codes "other") (map (λ f. f.0) (drop l.position l.files.entries)) ≡ has_file (codes "other") (names_in l.files)
