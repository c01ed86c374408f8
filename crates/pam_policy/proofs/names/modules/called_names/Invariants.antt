use Rattle.std.proofs.Common.{◌≡◌, ◌++◌, drop, filter_map, map}
use Rattle.pam_policy.specs.names.Host.{call_view}
use Rattle.pam_policy.specs.names.Misnamed.{name_at}
use Rattle.pam_policy.proofs.names.modules.called_names.Given as goal

-- the names so far, and those of the calls that are left
abbrev pub invariant-loop-call : goal.invariant-loop-call
invariant-loop-call l =
    map (λ name. name.now) l.names.items ++ filter_map (λ call. name_at l.is_strict call.path) (map call_view (drop l.call-index l.calls))
    ≡ filter_map (λ call. name_at l.is_strict call.path) (map call_view l.calls)
