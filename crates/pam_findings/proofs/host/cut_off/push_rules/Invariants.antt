use Rattle.pam_findings.specs.host.inner.Table.{Adds}
use Rattle.pam_findings.proofs.HostProofs.CutOff.{OfFirst}
use Rattle.pam_findings.proofs.host.cut_off.push_rules.Given as goal

-- those of the rules so far are added
abbrev pub invariant-loop-rule : goal.invariant-loop-rule
invariant-loop-rule l = Adds (OfFirst l.kinds l.file l.rules l.rule-index) l.initial.asked.items l.asked.items
