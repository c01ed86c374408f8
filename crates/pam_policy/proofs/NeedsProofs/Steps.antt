-- The fewest events that are needed, one event after another from the last.
use Rattle.std.proofs.Common.{◌≡◌, ◌∙◌, ◌↔◌, ℕ, ◌+◌, ◌<◌, ◌≤◌, Bool, true, false, List, [], ◌∷◌, ◌++◌, ap, append-nil, append_assoc, arith, cond}
use Rattle.std.proofs.Common.{drop, get_or, length, refl, subst, sym, take}
use Rattle.std.proofs.lemmas.Bool.{false≢true}
use Rattle.std.proofs.lemmas.List.{drop_all, drop_more, take_more}
use Rattle.std.specs.Prelude.{IsTrue}
use Rattle.pam_policy.specs.declared.needs.event.StackEvent.{StackEvent}
use Rattle.pam_policy.specs.host.Stacks.{KnownSite}
use Rattle.pam_policy.specs.needs.Choices.{AreNeeded}
use Rattle.pam_policy.specs.needs.Fewest.{AreFewest}
use Rattle.pam_policy.proofs.NeedsProofs.Fewest.{fewest-kept, fewest-left, fewest-none}

module _ (known : KnownSite) (others some : List StackEvent) where
  pub fewest-start : (count : ℕ) (kept left : List StackEvent) → count ≡ length some → kept ≡ [] → left ≡ [] →
      AreFewest (AreNeeded known) (others ++ take count some) (drop count some) kept left
  fewest-start count kept left is kept_is left_is =
      subst (λ (l : List StackEvent). AreFewest (AreNeeded known) (others ++ take count some) (drop count some) kept l) (sym left_is)
      (subst (λ (k : List StackEvent). AreFewest (AreNeeded known) (others ++ take count some) (drop count some) k []) (sym kept_is)
      (subst (λ (after : List StackEvent). AreFewest (AreNeeded known) (others ++ take count some) after [] [])
      (sym (drop_all count some (omega (arith, is)))) (fewest-none (AreNeeded known) (others ++ take count some))))

  pub fewest-all : (count : ℕ) (kept left : List StackEvent) → count ≤ 0 →
      AreFewest (AreNeeded known) (others ++ take count some) (drop count some) kept left → AreFewest (AreNeeded known) others some kept left
  fewest-all count kept left none are =
      subst (λ (before : List StackEvent). AreFewest (AreNeeded known) before some kept left) (append-nil others)
      (subst (λ (n : ℕ). AreFewest (AreNeeded known) (others ++ take n some) (drop n some) kept left) (is-zero count none) are)
    where
      is-zero : (count : ℕ) → count ≤ 0 → count ≡ 0
      is-zero count none = omega (arith, none)

  -- one event before the others is left out, or stays
  pub fewest-step : (count next : ℕ) (d : StackEvent) (before kept left new_kept new_left : List StackEvent) (is_left : Bool) →
      count ≡ next + 1 → next < length some → before ≡ others ++ take next some → IsTrue is_left ↔ AreNeeded known (before ++ kept) →
      new_kept ≡ cond is_left kept (get_or some next d ∷ kept) → new_left ≡ cond is_left (get_or some next d ∷ left) left →
      AreFewest (AreNeeded known) (others ++ take count some) (drop count some) kept left →
      AreFewest (AreNeeded known) (others ++ take next some) (drop next some) new_kept new_left
  fewest-step count next d before kept left new_kept new_left is_left count_is within before_is h kept_is left_is are =
      subst (λ (after : List StackEvent). AreFewest (AreNeeded known) (others ++ take next some) after new_kept new_left)
      (sym (drop_more some next d within)) (by is_left h kept_is left_is)
    where
      later : AreFewest (AreNeeded known) ((others ++ take next some) ++ get_or some next d ∷ []) (drop (next + 1) some) kept left
      later =
          subst (λ (b : List StackEvent). AreFewest (AreNeeded known) b (drop (next + 1) some) kept left)
          (ap (λ (f : List StackEvent). others ++ f) (take_more some next d within)
          ∙ sym (append_assoc others (take next some) (get_or some next d ∷ [])))
          (subst (λ (n : ℕ). AreFewest (AreNeeded known) (others ++ take n some) (drop n some) kept left) count_is are)

      same : (k k2 l l2 : List StackEvent) → k ≡ k2 → l ≡ l2 →
          AreFewest (AreNeeded known) (others ++ take next some) (get_or some next d ∷ drop (next + 1) some) k2 l2 →
          AreFewest (AreNeeded known) (others ++ take next some) (get_or some next d ∷ drop (next + 1) some) k l
      same k k2 l l2 k_is l_is are =
          subst (λ (m : List StackEvent).
          AreFewest (AreNeeded known) (others ++ take next some) (get_or some next d ∷ drop (next + 1) some) k m) (sym l_is)
          (subst (λ (m : List StackEvent).
          AreFewest (AreNeeded known) (others ++ take next some) (get_or some next d ∷ drop (next + 1) some) m l2) (sym k_is) are)

      by : (b : Bool) → IsTrue b ↔ AreNeeded known (before ++ kept) → new_kept ≡ cond b kept (get_or some next d ∷ kept) →
          new_left ≡ cond b (get_or some next d ∷ left) left →
          AreFewest (AreNeeded known) (others ++ take next some) (get_or some next d ∷ drop (next + 1) some) new_kept new_left
      by true k kept_is left_is =
          same new_kept kept new_left (get_or some next d ∷ left) kept_is left_is
          (fewest-left (AreNeeded known) (others ++ take next some) (drop (next + 1) some) kept left (get_or some next d)
          (subst (λ (b : List StackEvent). AreNeeded known (b ++ kept)) before_is (k.0 refl)) later)
      by false k kept_is left_is =
          same new_kept (get_or some next d ∷ kept) new_left left kept_is left_is
          (fewest-kept (AreNeeded known) (others ++ take next some) (drop (next + 1) some) kept left (get_or some next d)
          (λ needed. false≢true (k.1 (subst (λ (b : List StackEvent). AreNeeded known (b ++ kept)) (sym before_is) needed))) later)
