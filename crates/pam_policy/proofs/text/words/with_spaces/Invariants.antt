-- the words so far, and those that are left
use Rattle.std.proofs.Common.{◌≡◌, length}
use Rattle.std.specs.List.{join_with_byte}
use Rattle.pam_policy.specs.text.Words.{words_of}
use Rattle.pam_policy.proofs.TextProofs.RuleSteps.{after_text}
use Rattle.pam_policy.proofs.text.words.with_spaces.Given as goal

abbrev pub invariant-others : goal.invariant-others
invariant-others l = after_text l.text.items (words_of l.rest) ≡ join_with_byte 32 (words_of l.line)

abbrev pub decreases-others : goal.decreases-others
decreases-others l = length (words_of l.rest)
