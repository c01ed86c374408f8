use Rattle.std.proofs.Common.{◌≡◌, ◌∙◌, ◌∷◌, [], Ok, Some, None, ap, map, sym}
use Rattle.std.proofs.lemmas.List.{map-append}
use Rattle.std.proofs.lemmas.Result.{err_from_is_err_and}
use Rattle.pam_policy.specs.text.Events.{or_bad}
use Rattle.pam_policy.specs.text.Tests.{test_view}
use Rattle.pam_policy.specs.text.inner.Events.{next_test}
use Rattle.pam_policy.proofs.TextProofs.EventSteps.{bad_test, no_test_more, one_test_more}
use Rattle.pam_policy.proofs.TextProofs.FaultSteps.{told}
use Rattle.pam_policy.proofs.text.event.read_tests.Goals as goal

pub returns-in_err-test : goal.returns-in_err-test
returns-in_err-test c =
    let error = err_from_is_err_and c.from_residual.result c.from_residual.ensures.1 in
    rw (error.1, error.2)
    (told _ _ (bad_test (map test_view c.each.tests.items) c.each.rest.now c.args.text.now _ c.each.invariant c.in_err-test.ensures.value))

pub each-preserved : goal.each-preserved
each-preserved c =
    let read : next_test c.each.rest.now ≡ Ok (Some (test_view c.in-Some.test, c.in-Some.after.now)) =
    rw c.in-Some.is at c.in_ok-test.ensures.value in
    one_test_more (map test_view c.each.tests.items) (map test_view c.push.new.self.items) c.each.rest.now c.in-Some.after.now (test_view c.in-Some.test) read
    (ap (map test_view) c.in_ok-push.ensures.items ∙ map-append test_view c.each.tests.items (c.in-Some.test ∷ []))
    ∙ c.each.invariant

pub returns : goal.returns
returns c =
    let none : next_test c.each.rest.now ≡ Ok None = rw c.in_default.is at c.in_ok-test.ensures.value in
    ap or_bad (sym c.each.invariant ∙ no_test_more (map test_view c.each.tests.items) c.each.rest.now none)
