-- the key so far, and the words that are left
use Rattle.std.proofs.Common.{◌≡◌, ◌++◌, drop}
use Rattle.std.specs.List.{join_with_byte}
use Rattle.pam_findings.proofs.AcceptedProofs.KeySteps.{spaced}
use Rattle.pam_findings.proofs.AcceptedProofs.WordSteps.{texts}
use Rattle.pam_findings.proofs.accepted.keys.key_of.Given as goal

abbrev pub invariant-loop-word : goal.invariant-loop-word
invariant-loop-word l = l.key.items ++ spaced (texts (drop l.word-index l.others)) ≡ join_with_byte 32 (texts l.words)
