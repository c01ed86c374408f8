use Rattle.pam_findings.specs.host.inner.CutOff.{OfFiles}
use Rattle.pam_findings.specs.host.inner.Table.{Adds}
use Rattle.pam_findings.proofs.host.cut_off.push_files.Given as goal

-- those of the files so far are added
abbrev pub invariant-loop-file : goal.invariant-loop-file
invariant-loop-file l = Adds (OfFiles l.rules l.kinds l.file) l.initial.asked.items l.asked.items
