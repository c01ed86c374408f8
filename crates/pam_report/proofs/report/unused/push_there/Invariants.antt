use Rattle.std.proofs.Common.{◌≡◌, ◌++◌, filter_map}
use Rattle.pam_facts.specs.Paths.{module_name}
use Rattle.pam_report.proofs.report.unused.push_there.Given as goal

-- the names so far, and those at the paths that are left
abbrev pub invariant-loop-path : goal.invariant-loop-path
invariant-loop-path l = l.names ++ filter_map module_name l.path-iterator ≡ l.initial.names ++ filter_map module_name l.paths
