-- For private contracts and proofs alone: the tests of an event, one after another.
use Rattle.std.specs.Prelude.{ℕ, ◌==◌, List, [], ◌∷◌, ◌++◌, Option, Some, None, Result, Ok, if◌then◌else◌, option_and_then}
use Rattle.std.specs.Option.{option_map}
use Rattle.pam_text.specs.Cut.{cut_at}
use Rattle.pam_policy.specs.declared.text.error.PolicyFault.{PolicyFault}
use Rattle.pam_policy.specs.text.Events.{or_bad}
use Rattle.pam_policy.specs.text.Tests.{TestText, test_of}

-- the test after a bracket, and what is after it
abbrev pub cut_test : List ℕ × List ℕ → Option (TestText × List ℕ)
cut_test cut = option_map (λ test. (test, cut.1)) (test_of cut.0)

unfoldable pub opened_test : List ℕ → Option (TestText × List ℕ)
opened_test text = option_and_then cut_test (cut_at (λ b. b == 93) text)

abbrev pub some_test : Option (TestText × List ℕ) → Result (Option (TestText × List ℕ)) PolicyFault
some_test (Some read) = Ok (Some read)
some_test None = or_bad None

-- the test with which a text begins, if it begins with a bracket
unfoldable pub next_test : List ℕ → Result (Option (TestText × List ℕ)) PolicyFault
next_test [] = Ok None
next_test (b ∷ bs) = if b == 91 then some_test (opened_test bs) else Ok None

-- tests, and those that are read after them
abbrev pub after_tests : List TestText → Option (List TestText × List ℕ) → Option (List TestText × List ℕ)
after_tests tests read = option_map (λ p. (tests ++ p.0, p.1)) read
