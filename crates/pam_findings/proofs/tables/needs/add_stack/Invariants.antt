use Rattle.std.proofs.Common.{map}
use Rattle.pam_findings.specs.tables.inner.Passes.{Adds, need_view}
use Rattle.pam_findings.proofs.TablesProofs.Adding.{OfFirst}
use Rattle.pam_findings.proofs.tables.needs.add_stack.Given as goal

-- the modules so far are added
abbrev pub invariant-loop-index : goal.invariant-loop-index
invariant-loop-index l = Adds (OfFirst l.kind l.stack l.index) (map need_view l.initial.needs.items) (map need_view l.needs.items)
