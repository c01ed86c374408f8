use Rattle.std.proofs.Common.{◌≡◌, ◌∙◌, sym, refl, List, [], ℕ, Ok}
use Rattle.pam_codes.specs.Control.{fault_of, pairs_of, token_actions}
use Rattle.pam_codes.proofs.control.check_list.Goals as goal

no_tokens : (tokens : List (List ℕ)) → tokens ≡ [] → fault_of (token_actions tokens) ≡ Ok tt
unfolding pairs_of
no_tokens tokens e = rw e refl

pub returns : goal.returns
returns c = sym (no_tokens _ c.in_default.ensures.steps.0) ∙ c.loop-word.invariant.same
