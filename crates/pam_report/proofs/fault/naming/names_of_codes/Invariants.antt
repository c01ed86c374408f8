-- the names so far
use Rattle.std.proofs.Common.{◌≡◌, map, take}
use Rattle.pam_codes.specs.Code.{code_names}
use Rattle.pam_report.proofs.fault.naming.names_of_codes.Given as goal

abbrev pub invariant-loop-number : goal.invariant-loop-number
invariant-loop-number l = map (λ n. n.now) l.names.items ≡ take l.number code_names
