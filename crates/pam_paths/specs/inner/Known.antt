-- For private contracts and proofs alone: knowledge of the answers of modules.
use Rattle.std.proofs.Common.{◌≡◌, ◌<◌, ◌+◌, ℕ, zero, suc, Bool, true, not, List, ap, arith, inl, inr}
use Rattle.std.proofs.lemmas.Bool.{cases_Bool, false≢true, or_cases, or_left, or_right}
use Rattle.std.specs.List.{list_any, range_with_len}
use Rattle.pam_codes.specs.Code.{all_codes}
use Rattle.pam_codes.specs.Set.{is_in}
use Rattle.pam_paths.specs.declared.knowledge.Known.{Known}
use Rattle.pam_paths.specs.Known.{set_for, answers_by, may_answer}

-- THE LAW

in_run : (test : ℕ → Bool) (a n : ℕ) → list_any test (range_with_len a n) ≡ true → (code : ℕ) × (code < a + n) × (test code ≡ true)
in_run test a zero h = absurd (false≢true h)
in_run test a (suc n) h = elim (or_cases (test a) (list_any test (range_with_len (a + 1) n)) h) [
  | inl t ↦ (a, omega arith, t)
  | inr k ↦ let w = in_run test (a + 1) n k in (w.0, omega (arith, w.1), w.2)
]

-- each module may answer some code
pub some_code : (known : Known) (number : ℕ) → (code : ℕ) × (code < 31) × (may_answer known number code ≡ true)
unfolding answers_by all_codes
some_code known number =
    let set : List ℕ = set_for known number in
    let test : ℕ → Bool = λ c. is_in c set in
    elim (cases_Bool (list_any test (range_with_len 0 31))) [
      | inl t ↦ let k = in_run test 0 31 t in (k.0, omega (arith, k.1), or_left (is_in k.0 set) (not (list_any test (range_with_len 0 31))) k.2)
      | inr f ↦ (0, omega arith, or_right (is_in 0 set) (not (list_any test (range_with_len 0 31))) (ap not f))
    ]
