-- Known answers, of which those of some modules are replaced in order.
use Rattle.std.proofs.Common.{◌≡◌, ◌∙◌, ℕ, ◌+◌, ◌<◌, ◌≤◌, ◌==◌, Bool, true, false, List, if◌then◌else◌, ap, arith, refl, sym, inl, inr, unwrap_or}
use Rattle.std.proofs.Common.{Option, Some, None}
use Rattle.std.specs.Option.{option_map_or}
use Rattle.std.proofs.lemmas.Bool.{cases_eq, cond-false, cond-true, eq-eqb, ne_eqb}
use Rattle.pam_codes.specs.Set.{is_in}
use Rattle.pam_paths.specs.Known.{answers_by}
use Rattle.pam_facts.proofs.AnswerSteps.{IsSomeSet, allowed}

-- codes in place of those that a module may answer, if there are some
pub one-replaced : (old new : ℕ → List ℕ) (given : Option (List ℕ)) (codes : List ℕ) (number n code : ℕ) → given ≡ Some codes → IsSomeSet codes → code < 31 →
    new n ≡ (if n == number then codes else old n) →
    answers_by (new n) code ≡ (if n == number then option_map_or (is_in code) given (answers_by (old n) code) else answers_by (old n) code)
one-replaced old new given codes number n code is some small put =
    let was = answers_by (old n) code in
    elim (cases_eq n number) [
      | inl e ↦
          let same = eq-eqb n number e in
          allowed (new n) codes code (put ∙ cond-true (n == number) codes (old n) same) some small
          ∙ sym (ap (λ (o : Option (List ℕ)). option_map_or (is_in code) o was) is)
          ∙ sym (cond-true (n == number) (option_map_or (is_in code) given was) was same)
      | inr ne ↦
          let apart = ne_eqb n number ne in
          ap (λ (s : List ℕ). answers_by s code) (put ∙ cond-false (n == number) codes (old n) apart)
          ∙ sym (cond-false (n == number) (option_map_or (is_in code) given was) was apart)
    ]

pub none-replaced : (is_one was : Bool) (test : List ℕ → Bool) (given : Option (List ℕ)) → given ≡ None →
    was ≡ (if is_one then option_map_or test given was else was)
none-replaced true was test given is = sym (ap (λ (o : Option (List ℕ)). option_map_or test o was) is)
none-replaced false was test given is = refl

module _ (replaced : ℕ → Option (List ℕ)) (base : ℕ → List ℕ) where
  -- what may be answered after the codes of the modules up to i are replaced
  abbrev pub So : (ℕ → ℕ → Bool) → ℕ → ℕ → ℕ → Type 0
  So answers i number code =
      (number ≤ i → answers number code ≡ is_in code (unwrap_or (replaced number) (base number)))
      × (i < number → answers number code ≡ is_in code (base number))

  by-codes : (number code : ℕ) (o : Option (List ℕ)) → option_map_or (is_in code) o (is_in code (base number)) ≡ is_in code (unwrap_or o (base number))
  by-codes number code None = refl
  by-codes number code (Some codes) = refl

  pub replaced-next : (old new : ℕ → ℕ → Bool) (codes : Option (List ℕ)) (i number code : ℕ) → codes ≡ replaced (i + 1) →
      new number code ≡ (if number == i + 1 then option_map_or (is_in code) codes (old number code) else old number code) →
      So old i number code → So new (i + 1) number code
  replaced-next old new codes i number code is put before = elim (cases_eq number (i + 1)) [
    | inl e ↦ (
      λ le. put
          ∙ cond-true (number == i + 1) (option_map_or (is_in code) codes (old number code)) (old number code) (eq-eqb number (i + 1) e)
          ∙ ap (option_map_or (is_in code) codes) (before.1 (omega (arith, e)))
          ∙ by-codes number code codes
          ∙ ap (λ (o : Option (List ℕ)). is_in code (unwrap_or o (base number))) (is ∙ sym (ap replaced e)),
      λ lt. absurd (omega (arith, e, lt)),
    )
    | inr ne ↦
        let same : new number code ≡ old number code =
        put ∙ cond-false (number == i + 1) (option_map_or (is_in code) codes (old number code)) (old number code) (ne_eqb number (i + 1) ne) in (
          λ le. same ∙ before.0 (omega (arith, ne, le)),
          λ lt. same ∙ before.1 (omega (arith, lt)),
        )
  ]
