-- what is left has the same first wrong token
use Rattle.std.proofs.Common.{◌≡◌, ◌+◌, length}
use Rattle.std.specs.Option.{option_map}
use Rattle.pam_codes.specs.Tokens.{tokens_of}
use Rattle.pam_findings.specs.misspelled.Pairs.{place_in_pair, wrong_from}
use Rattle.pam_findings.proofs.MisspelledProofs.Pieces.{shifted}
use Rattle.pam_findings.proofs.misspelled.pairs.wrong_token.Given as goal

abbrev pub invariant-loop-token : goal.invariant-loop-token
invariant-loop-token l = record {
  moved : l.passed + length l.rest ≡ length l.text;
  there : option_map (shifted l.passed) (wrong_from l.error l.skipped l.rest) ≡ wrong_from l.error (place_in_pair l.error) l.text;
}

abbrev pub decreases-loop-token : goal.decreases-loop-token
decreases-loop-token l = length (tokens_of l.rest)
