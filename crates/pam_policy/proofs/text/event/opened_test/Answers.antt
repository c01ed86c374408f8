use Rattle.std.proofs.Common.{◌∙◌, ◌==◌, List, ℕ, Option, ap}
use Rattle.std.specs.Option.{option_map}
use Rattle.std.specs.Prelude.{option_and_then}
use Rattle.pam_text.proofs.Cutting.{cut_found}
use Rattle.pam_policy.specs.text.Tests.{TestText}
use Rattle.pam_policy.specs.text.inner.Events.{cut_test, opened_test}
use Rattle.pam_policy.proofs.text.event.opened_test.Goals as goal

pub returns-clause-value : goal.returns-clause-value
unfolding opened_test
returns-clause-value c =
    ap (λ (t : Option TestText). option_map (λ test. (test, c.split_at-2.result.1.now)) t) c.in_ok-test.ensures
    ∙ ap (λ (o : Option (List ℕ × List ℕ)). option_and_then cut_test o)
    (cut_found (λ b. b == 93) c.args.text.now _ _ _ _ c.in_ok-end_of_test.ensures.value c.split_at.ensures.front c.split_at.ensures.back
    c.split_at-2.ensures.back)
