-- Tables of answers.
use Rattle.std.proofs.Common.{◌≡◌, ◌<◌, ◌∙◌, ◌+◌, ◌-◌, ℕ, true, List, [], ◌∷◌, ◌++◌, Option, Some, ap, arith, get_or, inl, inr, length, subst, sym}
use Rattle.std.proofs.lemmas.Bool.{cases_lt}
use Rattle.std.proofs.lemmas.List.{get_or_append_left, get_or_push, length_push}
use Rattle.pam_dispatch.specs.declared.flat_item.FlatItem.{FlatItem}
use Rattle.pam_dispatch.specs.declared.state.State.{State}
use Rattle.pam_dispatch.specs.Decision.{decision_of}
use Rattle.pam_dispatch.specs.Flat.{modules_of, runs_of}
use Rattle.pam_dispatch.specs.Runs.{AsksRise, Assignment, Runs, answers_of}
use Rattle.pam_paths.specs.Listing.{Allowance}
use Rattle.pam_compare.specs.declared.change.Change.{Change}
use Rattle.pam_compare.specs.declared.witness.Witness.{Witness}
use Rattle.pam_compare.specs.Agreement.{Agree}
use Rattle.pam_compare.specs.Changes.{change_of}
use Rattle.pam_compare.specs.Comparison.{IsPreferred, IsWitness, decision_in}
use Rattle.pam_compare.specs.Names.{AreNames, by_name}
use Rattle.pam_compare.specs.inner.Naming.{IsKnown, IsPossible}
use Rattle.pam_compare.specs.inner.Trails.{AreAnswers}
use Rattle.pam_compare.specs.Situations.{Comes}
use Rattle.pam_compare.proofs.Agreeing.{same-final}
use Rattle.pam_compare.proofs.Coming.{comes-end}
use Rattle.pam_compare.proofs.Many.{names-agree, new-allowed, old-allowed}

pub answers-none : (a : Assignment) (codes : List ℕ) → codes ≡ [] → AreAnswers 0 a codes
answers-none a codes e = record {
  count = ap (λ (l : List ℕ). length l) e;
  each = λ i positive most. absurd (omega (arith, positive, most));
}

-- one more answer of a table
pub answers-push : (codes : List ℕ) (code count : ℕ) (after : List ℕ) (a : Assignment) → AreAnswers count a codes → after ≡ codes ++ code ∷ [] →
    code ≡ a (count + 1) → AreAnswers (count + 1) a after
answers-push codes code count after a are e new = record {
  count = ap (λ (l : List ℕ). length l) e ∙ length_push codes code ∙ ap (λ (n : ℕ). n + 1) are.count;
  each = λ i positive most.
      let len = are.count in
      ap (λ (l : List ℕ). get_or l (i - 1) 0) e
      ∙ elim (cases_lt count i) [
        | inr earlier ↦ get_or_append_left codes (code ∷ []) 0 (i - 1) (omega (arith, earlier, len, positive)) ∙ are.each i positive earlier
        | inl above ↦
            let same : count + 1 ≡ i = omega (arith, above, most) in
            get_or_push codes code 0 (i - 1) (omega (arith, same, len)) ∙ new ∙ ap a same
      ];
}

-- ANSWERS ON A WAY TO AN END ARE A WITNESS

module _ (old_allows new_allows : Allowance) (old new : List FlatItem) (partners : List (Option ℕ)) (names : List ℕ) (possible : List (List ℕ))
    (named : AreNames old_allows new_allows (modules_of old) (modules_of new) partners names)
    (exact : (a : Assignment) → IsPossible possible a → IsKnown old_allows new_allows (modules_of old) (modules_of new) names a)
    (rise_old : AsksRise 0 (modules_of old) (runs_of old)) (rise_new : AsksRise 0 (modules_of new) (runs_of new)) (left right : Runs) (change : Change)
    (ends : (x y : Assignment) → change_of (decision_in left x) (decision_in right y) ≡ Some change)
    (a : Assignment) (may : IsPossible possible a) (old_comes : Comes (runs_of old) a left) (new_comes : Comes (runs_of new) (by_name names a) right)
    (w : Witness) (of_old : AreAnswers (modules_of old) a w.old_codes.items) (of_new : AreAnswers (modules_of new) (by_name names a) w.new_codes.items)
    (old_decides : w.old ≡ decision_in (runs_of old) (answers_of w.old_codes.items))
    (new_decides : w.new ≡ decision_in (runs_of new) (answers_of w.new_codes.items))
    (preferred : IsPreferred old_allows new_allows old new partners change w) where
  old-decision : w.old ≡ decision_in left a
  old-decision =
      old_decides
      ∙ ap (λ (s : State). decision_of s)
      (same-final (answers_of w.old_codes.items) a 0 (modules_of old) (runs_of old) rise_old of_old.each ∙ sym (comes-end (runs_of old) left a old_comes))

  new-decision : w.new ≡ decision_in right (by_name names a)
  new-decision =
      new_decides
      ∙ ap (λ (s : State). decision_of s)
      (same-final (answers_of w.new_codes.items) (by_name names a) 0 (modules_of new) (runs_of new) rise_new of_new.each
      ∙ sym (comes-end (runs_of new) right (by_name names a) new_comes))

  agreed : Agree old_allows new_allows (modules_of old) (modules_of new) partners (answers_of w.old_codes.items) (answers_of w.new_codes.items)
  unfolding Agree
  agreed i j positive most tied =
      of_old.each i tied.1 tied.2
      ∙ names-agree old_allows new_allows old new partners names possible named exact a i j positive most tied ∙ sym (of_new.each j positive most)

  pub is-witness : IsWitness old_allows new_allows old new partners change w
  is-witness = record {
    old_count = of_old.count;
    new_count = of_new.count;
    old_allowed = λ m first last.
        let h = old-allowed old_allows new_allows old new partners names possible named exact a may m first last in
        let e = sym (of_old.each m first last) in
        (subst (λ (c : ℕ). c < 31) e h.0, subst (λ (c : ℕ). old_allows m c ≡ true) e h.1);
    new_allowed = λ m first last.
        let h = new-allowed old_allows new_allows old new partners names possible named exact a may m first last in
        let e = sym (of_new.each m first last) in
        (subst (λ (c : ℕ). c < 31) e h.0, subst (λ (c : ℕ). new_allows m c ≡ true) e h.1);
    agree = agreed;
    old_decision = old_decides;
    new_decision = new_decides;
    change_is = ap (λ (n : ℕ). change_of n w.new) old-decision ∙ ap (λ (n : ℕ). change_of (decision_in left a) n) new-decision ∙ ends a (by_name names a);
    preferred = preferred;
  }
