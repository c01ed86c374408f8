use Rattle.std.proofs.Common.{◌≡◌, ◌++◌, drop, map}
use Rattle.pam_report.proofs.services.file_names.Given as goal

-- the names so far, and those of the files that are left
abbrev pub invariant-loop-position : goal.invariant-loop-position
invariant-loop-position l =
    map (λ n. n.now) l.names.items ++ map (λ f. f.0) (drop l.position l.files.entries) ≡ map (λ f. f.0) l.files.entries
