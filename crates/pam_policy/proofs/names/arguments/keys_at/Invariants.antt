use Rattle.std.proofs.Common.{◌≡◌, ◌++◌, drop, map}
use Rattle.pam_policy.specs.names.Host.{call_view}
use Rattle.pam_policy.specs.names.Misnamed.{keys_at}
use Rattle.pam_policy.specs.names.Placed.{placed_view}
use Rattle.pam_policy.proofs.names.arguments.keys_at.Given as goal

-- the keys so far, and those of the calls that are left
abbrev pub invariant-loop-call : goal.invariant-loop-call
invariant-loop-call l =
    map (λ key. key.now) l.keys.items ++ keys_at (map call_view (drop l.call-index l.calls)) (placed_view l.placed)
    ≡ keys_at (map call_view l.calls) (placed_view l.placed)
