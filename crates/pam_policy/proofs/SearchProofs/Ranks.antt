-- The order of answers.
use Rattle.std.proofs.Common.{◌≡◌, ℕ, ◌-◌, sym, ◌∙◌, ap, arith, inl, inr}
use Rattle.std.proofs.lemmas.Bool.{cases_eq}
use Rattle.std.proofs.lemmas.Bool.Decides.{nat_tests}
use Rattle.std.specs.Prelude.{◌==◌, if◌then◌else◌}
use Rattle.pam_policy.specs.search.Runs.{rank}

-- the answer at a place
abbrev unrank : ℕ → ℕ
unrank place =
    if place == 0 then 0
    else if place == 1 then 7
    else if place == 2 then 6
    else if place == 3 then 10
    else if place == 4 then 9
    else if place == 5 then 25
    else place - 6

unrank-rank : (code : ℕ) → unrank (rank code) ≡ code
unrank-rank code =
    elim (cases_eq code 0) [
      | inl e ↦ ap (λ (c : ℕ). unrank (rank c)) e ∙ sym e
      | inr a ↦ elim (cases_eq code 7) [
        | inl e ↦ ap (λ (c : ℕ). unrank (rank c)) e ∙ sym e
        | inr b ↦ elim (cases_eq code 6) [
          | inl e ↦ ap (λ (c : ℕ). unrank (rank c)) e ∙ sym e
          | inr d ↦ elim (cases_eq code 10) [
            | inl e ↦ ap (λ (c : ℕ). unrank (rank c)) e ∙ sym e
            | inr f ↦ elim (cases_eq code 9) [
              | inl e ↦ ap (λ (c : ℕ). unrank (rank c)) e ∙ sym e
              | inr g ↦ elim (cases_eq code 25) [
                | inl e ↦ ap (λ (c : ℕ). unrank (rank c)) e ∙ sym e
                | inr h ↦ grind (arith, nat_tests)
              ]
            ]
          ]
        ]
      ]
    ]

-- answers at one place are equal
pub rank-same : (one other : ℕ) → rank one ≡ rank other → one ≡ other
rank-same one other h = sym (unrank-rank one) ∙ ap unrank h ∙ unrank-rank other
