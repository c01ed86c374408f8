-- what is left has the same first wrong word
use Rattle.std.proofs.Common.{◌≡◌, find, length, not}
use Rattle.pam_codes.specs.Tokens.{tokens_of}
use Rattle.pam_findings.specs.misspelled.Pairs.{is_right, thirds, wrong_token}
use Rattle.pam_findings.proofs.misspelled.pairs.first_wrong.Given as goal

abbrev pub invariant-loop-token : goal.invariant-loop-token
invariant-loop-token l =
    find (λ token. not (is_right l.error token)) (thirds l.passed (tokens_of l.rest)) ≡ wrong_token l.error (tokens_of l.text)

abbrev pub decreases-loop-token : goal.decreases-loop-token
decreases-loop-token l = length (tokens_of l.rest)
