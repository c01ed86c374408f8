use Rattle.std.proofs.Common.{◌<◌}
use Rattle.pam_findings.specs.host.inner.Table.{Notes}
use Rattle.pam_findings.proofs.host.readers.note_each.Given as goal

-- the stack is noted at the files so far
abbrev pub invariant-loop-file : goal.invariant-loop-file
invariant-loop-file l = Notes (λ file. file < l.file) l.service l.kind l.initial.readers l.readers
