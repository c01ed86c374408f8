-- The answers of two runs, one after another.
use Rattle.std.proofs.Common.{◌≡◌, ℕ, ◌+◌, ◌<◌, ◌≤◌, min, true, false, List, [], ◌∷◌, inl, inr, refl, sym, ◌∙◌, ap, arith}
use Rattle.std.proofs.Common.{add-one, drop, drop-cons, get_or, length}
use Rattle.std.proofs.lemmas.Bool.{cases_lt}
use Rattle.std.proofs.lemmas.List.{drop_all}
use Rattle.pam_policy.specs.declared.search.run.Step.{Step}
use Rattle.pam_policy.specs.rules.inner.Choosing.{comes_before}
use Rattle.pam_policy.specs.search.Runs.{rank}
use Rattle.pam_policy.proofs.RulesProofs.Order.{tell-first, tell-last, tell-later}

next-of : (steps : List Step) (i : ℕ) (d : Step) → i < length steps → drop i steps ≡ get_or steps i d ∷ drop (i + 1) steps
next-of steps i d l = drop-cons steps i d l ∙ ap (λ (n : ℕ). get_or steps i d ∷ drop n steps) (sym (add-one i))

module _ (steps others : List Step) (i : ℕ) (d e : Step) (low : i < length steps) (high : i < length others) where
  abbrev step : Step
  step = get_or steps i d

  abbrev other : Step
  other = get_or others i e

  both : comes_before (drop i steps) (drop i others) ≡ comes_before (step ∷ drop (i + 1) steps) (other ∷ drop (i + 1) others)
  both =
      ap (λ (xs : List Step). comes_before xs (drop i others)) (next-of steps i d low)
      ∙ ap (comes_before (step ∷ drop (i + 1) steps)) (next-of others i e high)

  pub step-true : rank step.code < rank other.code → comes_before (drop i steps) (drop i others) ≡ true
  step-true l = both ∙ tell-first step other (drop (i + 1) steps) (drop (i + 1) others) l

  pub step-false : rank other.code < rank step.code → comes_before (drop i steps) (drop i others) ≡ false
  step-false l = both ∙ tell-last step other (drop (i + 1) steps) (drop (i + 1) others) l

  pub step-same : rank step.code ≡ rank other.code →
      comes_before (drop i steps) (drop i others) ≡ comes_before (drop (i + 1) steps) (drop (i + 1) others)
  step-same same = both ∙ tell-later step other (drop (i + 1) steps) (drop (i + 1) others) same

before-none : (steps : List Step) → comes_before steps [] ≡ false
before-none [] = refl
before-none (first ∷ steps) = refl

pub steps-end : (steps others : List Step) (i : ℕ) → min (length steps) (length others) ≤ i → comes_before (drop i steps) (drop i others) ≡ false
steps-end steps others i end =
    elim (cases_lt i (length steps)) [
      | inl l ↦ ap (comes_before (drop i steps)) (drop_all i others (omega (arith, end, l))) ∙ before-none (drop i steps)
      | inr most ↦ ap (λ (xs : List Step). comes_before xs (drop i others)) (drop_all i steps most)
    ]
