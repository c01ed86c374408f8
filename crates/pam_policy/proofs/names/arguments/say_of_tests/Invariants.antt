use Rattle.std.proofs.Common.{◌≡◌, drop, map}
use Rattle.pam_policy.specs.names.Misnamed.{of_tests}
use Rattle.pam_policy.specs.names.Words.{misnamed_view, saying}
use Rattle.pam_policy.specs.text.Tests.{test_view}
use Rattle.pam_policy.proofs.names.arguments.say_of_tests.Given as goal

-- what is said so far, and of the tests that are left
abbrev pub invariant-loop-test : goal.invariant-loop-test
invariant-loop-test l =
    let keys = map (λ key. key.now) l.keys in
    saying (map misnamed_view l.said.items) (of_tests l.name keys (map test_view (drop l.test-index l.tests)))
    ≡ saying (map misnamed_view l.initial.said.items) (of_tests l.name keys (map test_view l.tests))
