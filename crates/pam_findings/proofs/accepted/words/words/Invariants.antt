-- the words of the parts so far, and of those that are left
use Rattle.std.proofs.Common.{◌≡◌, ◌++◌, drop, length}
use Rattle.std.specs.List.{slice_split}
use Rattle.pam_text.specs.Blanks.{is_text_blank}
use Rattle.pam_findings.specs.accepted.Words.{words_of}
use Rattle.pam_findings.proofs.AcceptedProofs.WordSteps.{said, texts}
use Rattle.pam_findings.proofs.accepted.words.words.Given as goal

abbrev pub invariant-loop-part : goal.invariant-loop-part
invariant-loop-part l = texts l.words.items ++ said (drop (length l.yielded) (slice_split is_text_blank l.line)) ≡ words_of l.line
