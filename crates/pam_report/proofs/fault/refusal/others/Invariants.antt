use Rattle.std.proofs.Common.{◌≡◌, ◌++◌, drop, filter, map, not}
use Rattle.std.specs.Str.{bytes_eq}
use Rattle.pam_report.proofs.fault.refusal.others.Given as goal

-- the names so far, and those of the others that are left
abbrev pub invariant-loop-other : goal.invariant-loop-other
invariant-loop-other l =
    map (λ n. n.now) l.others.items ++ filter (λ other. not (bytes_eq l.name other)) (map (λ n. n.now) (drop l.other-index l.names))
    ≡ filter (λ other. not (bytes_eq l.name other)) (map (λ n. n.now) l.names)
