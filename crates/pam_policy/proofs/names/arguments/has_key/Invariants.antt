use Rattle.std.proofs.Common.{◌≡◌, drop, map}
use Rattle.std.specs.List.{list_any}
use Rattle.std.specs.Str.{bytes_eq}
use Rattle.pam_policy.proofs.names.arguments.has_key.Given as goal

-- whether one of the keys that are left is this one
abbrev pub invariant-loop-other : goal.invariant-loop-other
invariant-loop-other l =
    list_any (bytes_eq l.key) (map (λ other. other.now) (drop l.other-index l.keys)) ≡ list_any (bytes_eq l.key) (map (λ other. other.now) l.keys)
