-- the tests so far, and those that are still to be read
use Rattle.std.proofs.Common.{◌≡◌, length, map}
use Rattle.pam_policy.specs.text.Events.{tests_before}
use Rattle.pam_policy.specs.text.Tests.{test_view}
use Rattle.pam_policy.specs.text.inner.Events.{after_tests}
use Rattle.pam_policy.proofs.text.event.read_tests.Given as goal

abbrev pub invariant-each : goal.invariant-each
invariant-each l = after_tests (map test_view l.tests.items) (tests_before l.rest) ≡ tests_before l.text

abbrev pub decreases-each : goal.decreases-each
decreases-each l = length l.rest
