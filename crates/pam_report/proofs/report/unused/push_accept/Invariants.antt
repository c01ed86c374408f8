use Rattle.std.proofs.Common.{◌≡◌, ◌++◌, drop, map}
use Rattle.pam_report.specs.Unused.{OfAccept, unused_view}
use Rattle.pam_report.proofs.report.unused.push_accept.Given as goal

-- the lines so far, and those that are left
abbrev pub invariant-loop-line : goal.invariant-loop-line
invariant-loop-line l =
    map unused_view l.unused.items ++ map OfAccept (drop l.line-index l.lines) ≡ map unused_view l.initial.unused.items ++ map OfAccept l.lines
