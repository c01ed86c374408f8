use Rattle.std.proofs.Common.{◌≡◌, ◌++◌, drop, filter_map, map}
use Rattle.pam_facts.specs.Paths.{module_name}
use Rattle.pam_policy.specs.names.Host.{call_view}
use Rattle.pam_report.proofs.report.unused.push_called.Given as goal

-- the names so far, and those of the calls that are left
abbrev pub invariant-loop-call : goal.invariant-loop-call
invariant-loop-call l =
    l.names ++ filter_map (λ call. module_name call.path) (map call_view (drop l.call-index l.calls))
    ≡ l.initial.names ++ filter_map (λ call. module_name call.path) (map call_view l.calls)
