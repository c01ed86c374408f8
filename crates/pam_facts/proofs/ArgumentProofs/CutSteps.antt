-- The parts of a text, one after another.
use Rattle.std.proofs.Common.{◌≡◌, ◌∙◌, ◌<◌, ◌||◌, ℕ, Bool, true, false, List, [], ◌∷◌, length, Option, Some}
use Rattle.std.proofs.Common.{None, sym, ap, arith}
use Rattle.std.specs.List.{list_any}
use Rattle.pam_text.proofs.Splits.{split_found, split_none}
use Rattle.pam_text.specs.Cut.{cut_at, is_among}
use Rattle.pam_facts.specs.arguments.Cuts.{parts_of}
use Rattle.pam_facts.specs.arguments.inner.Cuts.{parts_left}

pub shorter : {A : Type 0} (xs ys : List A) (x : A) → xs ≡ x ∷ ys → length ys < length xs
shorter xs ys x e = rw e (omega arith)

pub part_found : (separator : ℕ) (rest : Option (List ℕ)) (text a r : List ℕ) → rest ≡ Some text → Some (a, r) ≡ cut_at (is_among (separator ∷ [])) text →
    parts_left separator rest ≡ a ∷ parts_of separator r
unfolding parts_of
part_found separator rest text a r is e = rw is (split_found (is_among (separator ∷ [])) text a r e)

pub last_part : (separator : ℕ) (rest : Option (List ℕ)) (text : List ℕ) → rest ≡ Some text → None ≡ cut_at (is_among (separator ∷ [])) text →
    parts_left separator rest ≡ text ∷ []
unfolding parts_of
last_part separator rest text is e = rw is (split_none (is_among (separator ∷ [])) text e)

-- ---- parts that are tested one after another

module _ {X : Type 0} (test : X → Bool) (all left : List X) (x : X) (is : all ≡ x ∷ left) where
  pub one_passes : test x ≡ true → true ≡ list_any test all
  one_passes h = sym (ap (λ (xs : List X). list_any test xs) is ∙ ap (λ (t : Bool). t || list_any test left) h)

  pub one_fails : test x ≡ false → list_any test left ≡ list_any test all
  one_fails h = sym (ap (λ (xs : List X). list_any test xs) is ∙ ap (λ (t : Bool). t || list_any test left) h)
