use Rattle.std.proofs.Common.{◌≡◌, length, Ok, All, IfSome}
use Rattle.pam_codes.specs.Action.{IsAction}
use Rattle.pam_codes.specs.Tokens.{tokens_of}
use Rattle.pam_codes.specs.Control.{pairs_of, token_actions, ◌>>=◌}
use Rattle.pam_codes.proofs.Overlay.{actions_after}
use Rattle.pam_codes.proofs.control.Control.from_list.Given as goal

-- the pairs read so far and those of the rest have the actions of all pairs
abbrev pub invariant-loop-word : goal.invariant-loop-word
invariant-loop-word l = record {
  can : (goal.iterator-loop-word).can_next l.tokens;
  finite : (goal.iterator-loop-word).is_finite l.tokens;
  few : length l.named ≡ 31;
  named : All (λ action. IfSome action IsAction) l.named;
  default : IfSome l.default IsAction;
  same : (pairs_of (tokens_of l.tokens.rest.now) >>= λ ps. Ok (actions_after l.named l.default ps)) ≡ token_actions (tokens_of l.text);
}

abbrev pub decreases-loop-word : goal.decreases-loop-word
decreases-loop-word l = length (tokens_of l.tokens.rest.now)
