use Rattle.std.proofs.Common.{◌≡◌, fold, false}
use Rattle.pam_findings.specs.host.Faillock.{counts_after}
use Rattle.pam_findings.proofs.host.faillock.counts_by.Given as goal

-- the words that are left decide what those so far do not
abbrev pub invariant-loop-word : goal.invariant-loop-word
invariant-loop-word l = fold counts_after l.counts l.word-iterator ≡ fold counts_after false l.arguments
