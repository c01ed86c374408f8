use Rattle.std.proofs.Common.{◌≡◌, drop}
use Rattle.pam_findings.specs.host.Inside.{share_other}
use Rattle.pam_findings.proofs.host.inside.share_other.Given as goal

-- the includes from this depth on say it
abbrev pub invariant-loop-depth : goal.invariant-loop-depth
invariant-loop-depth l = share_other (drop l.depth l.before) (drop l.depth l.after) (drop l.depth l.own) ≡ share_other l.before l.after l.own
