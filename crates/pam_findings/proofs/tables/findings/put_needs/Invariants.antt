use Rattle.std.proofs.Common.{map, take}
use Rattle.pam_findings.specs.tables.inner.Passes.{IsOfSome, Puts, need_view}
use Rattle.pam_findings.specs.tables.Tables.{tables_view}
use Rattle.pam_findings.proofs.tables.findings.put_needs.Given as goal

-- the problems of the needs so far are found
abbrev pub invariant-loop-need : goal.invariant-loop-need
invariant-loop-need l = Puts (IsOfSome (tables_view l.tables) (map need_view (take l.need-index l.needs))) l.initial.found l.found
