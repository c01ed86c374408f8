-- The tests of an event, one after another.
use Rattle.std.proofs.Common.{◌≡◌, ◌∙◌, ◌+◌, ◌<◌, ◌≤◌, ◌++◌, ◌==◌, ℕ, Bool, true, false, not, List, [], ◌∷◌, Option, Some, None, Result, Ok, Err}
use Rattle.std.proofs.Common.{add-one, ap, append-nil, append_assoc, arith, cond, drop, eqb, length, nat_lt, one-add, refl, suc, sym, take}
use Rattle.std.specs.List.{onto_first, position_or_len}
use Rattle.std.specs.Option.{option_map}
use Rattle.std.specs.Prelude.{option_and_then}
use Rattle.std.proofs.lemmas.Bool.{ltb-false, ltb-true}
use Rattle.pam_text.specs.Cut.{cut_at}
use Rattle.pam_policy.specs.declared.text.error.PolicyFault.{PolicyFault}
use Rattle.pam_policy.specs.declared.text.error.PolicyFault.TheVariants.{BadEvent}
use Rattle.pam_policy.specs.text.Events.{brackets, or_bad, tests_before, tests_of}
use Rattle.pam_policy.specs.text.Tests.{TestText, test_of}
use Rattle.pam_policy.specs.text.inner.Events.{after_tests, cut_test, next_test, opened_test, some_test}

abbrev closes : ℕ → Bool
closes b = b == 93

-- texts between brackets, and what is after them
abbrev Texts : Type 0
Texts = List (List ℕ) × List ℕ

abbrev with_byte : ℕ → Texts → Texts
with_byte b p = (onto_first b p.0, p.1)

abbrev with_text : List ℕ → Texts → Texts
with_text text p = (text ∷ p.0, p.1)

one_byte_more : (b : ℕ) (text : List ℕ) (o : Option Texts) → option_map (with_byte b) (option_map (with_text text) o) ≡ option_map (with_text (b ∷ text)) o
one_byte_more b text None = refl
one_byte_more b text (Some p) = refl

-- an open bracket is closed at the first `]`
closed_at : (bs : List ℕ) → position_or_len closes bs < length bs
    → brackets true bs ≡ option_map (with_text (take (position_or_len closes bs) bs)) (brackets false (drop (position_or_len closes bs + 1) bs))
unfolding brackets
closed_at [] h = absurd (omega arith)
closed_at (b ∷ bs) h =
    elim (eqb b 93) as (λ (t : Bool). cond (not t) (1 + position_or_len closes bs) 0 < length (b ∷ bs)
    → cond t (option_map (with_text []) (brackets false bs)) (option_map (with_byte b) (brackets true bs))
    ≡ option_map (with_text (take (cond (not t) (1 + position_or_len closes bs) 0) (b ∷ bs)))
    (brackets false (drop (cond (not t) (1 + position_or_len closes bs) 0 + 1) (b ∷ bs)))) [
      | true ↦ λ l. refl
      | false ↦ λ l.
          let rest = closed_at bs (omega arith) in
          rw (one-add, add-one)
          (ap (option_map (with_byte b)) (rw add-one at rest)
          ∙ one_byte_more b (take (position_or_len closes bs) bs) (brackets false (drop (suc (position_or_len closes bs)) bs)))
    ] h

-- or it stays open
stays_open : (bs : List ℕ) → length bs ≤ position_or_len closes bs → brackets true bs ≡ None
unfolding brackets
stays_open [] h = refl
stays_open (b ∷ bs) h =
    elim (eqb b 93) as (λ (t : Bool). length (b ∷ bs) ≤ cond (not t) (1 + position_or_len closes bs) 0
    → cond t (option_map (with_text []) (brackets false bs)) (option_map (with_byte b) (brackets true bs)) ≡ None) [
      | true ↦ λ l. absurd (omega arith)
      | false ↦ λ l. ap (option_map (with_byte b)) (stays_open bs (omega arith))
    ] h

-- ---- the tests

abbrev tested : Texts → Option (List TestText × List ℕ)
tested p = option_map (λ tests. (tests, p.1)) (tests_of p.0)

abbrev with_test : TestText → List TestText × List ℕ → List TestText × List ℕ
with_test test p = (test ∷ p.0, p.1)

swapped : (test : TestText) (rest : List ℕ) (o : Option (List TestText))
    → option_map (λ tests. (tests, rest)) (option_map (λ tests. test ∷ tests) o) ≡ option_map (with_test test) (option_map (λ tests. (tests, rest)) o)
swapped test rest None = refl
swapped test rest (Some tests) = refl

test_first : (text : List ℕ) (test : TestText) (o : Option Texts) → test_of text ≡ Some test
    → option_and_then tested (option_map (with_text text) o) ≡ option_map (with_test test) (option_and_then tested o)
unfolding tests_of
test_first text test None e = refl
test_first text test (Some p) e = rw e (swapped test p.1 (tests_of p.0))

bad_first : (text : List ℕ) (o : Option Texts) → test_of text ≡ None → option_and_then tested (option_map (with_text text) o) ≡ None
unfolding tests_of
bad_first text None e = refl
bad_first text (Some p) e = rw e refl

-- what the next test, if there is one, says of all tests
abbrev pub with_next : List ℕ → Result (Option (TestText × List ℕ)) PolicyFault → Option (List TestText × List ℕ)
with_next text (Ok None) = Some ([], text)
with_next text (Ok (Some read)) = option_map (with_test read.0) (tests_before read.1)
with_next text (Err fault) = None

after_text : (b : ℕ) (bs inside rest : List ℕ) → brackets true bs ≡ option_map (with_text inside) (brackets false rest)
    → option_and_then tested (brackets true bs) ≡ with_next (b ∷ bs) (some_test (cut_test (inside, rest)))
unfolding tests_before
after_text b bs inside rest e = by_test (test_of inside) refl
  where
    by_test : (o : Option TestText) → test_of inside ≡ o
        → option_and_then tested (brackets true bs) ≡ with_next (b ∷ bs) (some_test (option_map (λ test. (test, rest)) o))
    by_test (Some test) is = ap (option_and_then tested) e ∙ test_first inside test (brackets false rest) is
    by_test None is = ap (option_and_then tested) e ∙ bad_first inside (brackets false rest) is

opened : (b : ℕ) (bs : List ℕ) → option_and_then tested (brackets true bs) ≡ with_next (b ∷ bs) (some_test (opened_test bs))
unfolding opened_test
opened b bs = by_end (nat_lt (position_or_len closes bs) (length bs)) refl
  where
    by_end : (t : Bool) → nat_lt (position_or_len closes bs) (length bs) ≡ t
        → option_and_then tested (brackets true bs) ≡ with_next (b ∷ bs) (some_test (option_and_then cut_test (cut_at closes bs)))
    by_end true e = rw e (after_text b bs _ _ (closed_at bs (ltb-true _ _ e)))
    by_end false e = rw e (ap (option_and_then tested) (stays_open bs (ltb-false _ _ e)))

step : (text : List ℕ) → tests_before text ≡ with_next text (next_test text)
unfolding tests_before next_test brackets tests_of
step [] = refl
step (b ∷ bs) = by_first (eqb b 91) refl
  where
    by_first : (t : Bool) → eqb b 91 ≡ t
        → option_and_then tested (cond t (brackets true bs) (Some ([], b ∷ bs))) ≡ with_next (b ∷ bs) (cond t (some_test (opened_test bs)) (Ok None))
    by_first true e = opened b bs
    by_first false e = refl

one_after : (tests : List TestText) (test : TestText) (o : Option (List TestText × List ℕ))
    → after_tests (tests ++ test ∷ []) o ≡ after_tests tests (option_map (with_test test) o)
one_after tests test None = refl
one_after tests test (Some p) = ap (λ (ts : List TestText). Some (ts, p.1)) (append_assoc tests (test ∷ []) p.0)

pub one_test_more : (tests new : List TestText) (text rest : List ℕ) (test : TestText) → next_test text ≡ Ok (Some (test, rest)) → new ≡ tests ++ test ∷ []
    → after_tests new (tests_before rest) ≡ after_tests tests (tests_before text)
one_test_more tests new text rest test e put =
    ap (λ (ts : List TestText). after_tests ts (tests_before rest)) put ∙ one_after tests test (tests_before rest)
    ∙ sym (ap (after_tests tests) (step text ∙ ap (with_next text) e))

pub no_test_more : (tests : List TestText) (text : List ℕ) → next_test text ≡ Ok None → after_tests tests (tests_before text) ≡ Some (tests, text)
no_test_more tests text e =
    ap (after_tests tests) (step text ∙ ap (with_next text) e) ∙ ap (λ (ts : List TestText). Some (ts, text)) (append-nil tests)

fault_of_none : (o : Option (TestText × List ℕ)) (fault : PolicyFault) → some_test o ≡ Err fault → fault ≡ BadEvent
fault_of_none None fault h = cc
fault_of_none (Some read) fault h = absurd (cc)

only_fault : (text : List ℕ) (fault : PolicyFault) → next_test text ≡ Err fault → fault ≡ BadEvent
unfolding next_test
only_fault [] fault h = absurd (cc)
only_fault (b ∷ bs) fault h =
    elim (eqb b 91) as (λ (t : Bool). cond t (some_test (opened_test bs)) (Ok None) ≡ Err fault → fault ≡ BadEvent) [
      | true ↦ λ g. fault_of_none (opened_test bs) fault g
      | false ↦ λ g. absurd (cc)
    ] h

pub bad_test : (tests : List TestText) (text all : List ℕ) (fault : PolicyFault) → after_tests tests (tests_before text) ≡ tests_before all
    → next_test text ≡ Err fault → or_bad (tests_before all) ≡ Err fault
bad_test tests text all fault same e =
    ap or_bad (sym same ∙ ap (after_tests tests) (step text ∙ ap (with_next text) e)) ∙ ap Err (sym (only_fault text fault e))

pub none_before : (o : Option (List TestText × List ℕ)) → o ≡ after_tests [] o
none_before None = refl
none_before (Some p) = refl
