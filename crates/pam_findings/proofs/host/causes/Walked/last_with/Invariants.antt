use Rattle.std.proofs.Common.{slice_get, take}
use Rattle.pam_findings.specs.host.Causes.{IsLastOr}
use Rattle.pam_findings.specs.host.Verdicts.{HasAlone, LacksAlone}
use Rattle.pam_findings.specs.host.inner.Alone.{AreKnown}
use Rattle.pam_findings.proofs.host.causes.Walked.last_with.Given as goal

-- the last one of the files so far, and what is known is right
abbrev pub invariant-loop-file : goal.invariant-loop-file
invariant-loop-file l =
    IsLastOr (HasAlone l.self.checker.now.rules.now l.self.checker.now.modules.now l.kind l.whole)
    (LacksAlone l.self.checker.now.rules.now l.self.checker.now.modules.now l.kind l.whole) (slice_get l.self.reached.now 0)
    (take l.file-index l.self.reached.now) l.cause
    × AreKnown l.self.checker.now.rules.now l.self.checker.now.modules.now l.table.items
