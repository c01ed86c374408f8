use Rattle.std.proofs.Common.{ℕ, ◌∙◌, ap, sym}
use Rattle.pam_dispatch.specs.declared.state.State.{State}
use Rattle.pam_dispatch.specs.Decision.{decision_of}
use Rattle.pam_dispatch.specs.Flat.{rest_of}
use Rattle.pam_dispatch.proofs.Asking.{final_state-end}
use Rattle.pam_compare.specs.Changes.{change_of}
use Rattle.pam_compare.specs.Comparison.{decision_in}
use Rattle.pam_compare.proofs.comparing.change_at.Goals as goal

pub returns : goal.returns
returns c a b =
    let left = rest_of c.args.pair.now.old.now c.args.node.now.old in
    let right = rest_of c.args.pair.now.new.now c.args.node.now.new in
    c.of.ensures
    ∙ ap (λ (n : ℕ). change_of n c.code-2.result)
    (c.code.ensures ∙ c.decision.ensures ∙ ap (λ (s : State). decision_of s) (sym (final_state-end a left c.requires.old_end)))
    ∙ ap (λ (n : ℕ). change_of (decision_in left a) n)
    (c.code-2.ensures ∙ c.decision-2.ensures ∙ ap (λ (s : State). decision_of s) (sym (final_state-end b right c.requires.new_end)))
