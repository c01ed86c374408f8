use Rattle.std.proofs.Common.{take}
use Rattle.pam_text.specs.Members.{Member}
use Rattle.pam_findings.specs.host.inner.Table.{Notes}
use Rattle.pam_findings.proofs.host.readers.note_all.Given as goal

-- the stack is noted at the files so far
abbrev pub invariant-loop-file : goal.invariant-loop-file
invariant-loop-file l = Notes (λ file. Member file (take l.file-index l.files)) l.service l.kind l.initial.readers l.readers
