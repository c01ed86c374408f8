use Rattle.std.proofs.Common.{◌≡◌, length}
use Rattle.pam_codes.specs.Tokens.{tokens_of}
use Rattle.pam_codes.specs.Control.{fault_of, token_actions}
use Rattle.pam_codes.proofs.control.check_list.Given as goal

-- the rest has the fault of all tokens, if they have one
abbrev pub invariant-loop-word : goal.invariant-loop-word
invariant-loop-word l = record {
  can : (goal.iterator-loop-word).can_next l.tokens;
  finite : (goal.iterator-loop-word).is_finite l.tokens;
  same : fault_of (token_actions (tokens_of l.tokens.rest.now)) ≡ fault_of (token_actions (tokens_of l.text));
}

abbrev pub decreases-loop-word : goal.decreases-loop-word
decreases-loop-word l = length (tokens_of l.tokens.rest.now)
