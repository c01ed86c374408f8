use Rattle.std.proofs.Common.{◌≡◌, ◌++◌, drop, map}
use Rattle.std.specs.List.{flat_map}
use Rattle.pam_policy.specs.names.Calls.{calls_in, calls_of}
use Rattle.pam_policy.specs.names.Host.{call_view}
use Rattle.pam_policy.proofs.names.calls.calls_in.Given as goal

-- the calls so far, and those of the files that are left
abbrev pub invariant-loop-position : goal.invariant-loop-position
invariant-loop-position l =
    map call_view l.calls.items ++ flat_map (λ file. calls_of l.rules.form file.1) (drop l.position l.rules.entries) ≡ calls_in l.rules
