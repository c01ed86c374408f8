use Rattle.std.proofs.Common.{◌≡◌, ◌∙◌, ◌&&◌, ◌||◌, ◌∷◌, [], ℕ, Bool, true, false, List, ap, cond, filter, refl, sym}
use Rattle.std.specs.List.{list_any}
use Rattle.std.specs.Prelude.{not, slice_index_or}
use Rattle.std.proofs.lemmas.Bool.{false≢true}
use Rattle.pam_codes.specs.Code.{all_codes}
use Rattle.pam_codes.specs.Set.{is_in}
use Rattle.pam_codes.specs.inner.SetBits.{is_in-codes_where}
use Rattle.pam_compare.specs.Walks.{tells}
use Rattle.pam_compare.proofs.Holding.{taken-out}
use Rattle.pam_compare.proofs.held.tells.Goals as goal

not-out : (b : Bool) → not b ≡ false → b ≡ true
not-out true e = refl
not-out false e = absurd (false≢true (sym e))

pub returns-clause-all : goal.returns-clause-all
returns-clause-all c out code low can =
    let codes = c.args.codes in
    let possible = c.possible_at-possible.result in
    let at : List (List ℕ) → List ℕ = λ sets. slice_index_or sets c.args.name all_codes in
    let member : is_in code possible ≡ true = ap (is_in code) (c.possible_at-possible.ensures ∙ ap at c.deref.ensures.value) ∙ can in
    let none = c.is_empty.ensures.0 (not-out c.is_empty.result out) in
    taken-out (is_in code possible) (is_in code codes) member
    (sym (is_in-codes_where (λ x. is_in x possible && not (is_in x codes)) code low) ∙ sym (ap (is_in code) c.without.ensures) ∙ ap (is_in code) none)

filter-none : (test : ℕ → Bool) (xs : List ℕ) → filter test xs ≡ [] → list_any test xs ≡ false
filter-none test [] e = refl
filter-none test (x ∷ xs) e =
    elim (test x) as (λ (b : Bool). cond b (x ∷ filter test xs) (filter test xs) ≡ [] → (b || list_any test xs) ≡ false) [
      | true ↦ λ f. cc
      | false ↦ λ f. filter-none test xs f
    ] e

none-filter : (test : ℕ → Bool) (xs : List ℕ) → list_any test xs ≡ false → filter test xs ≡ []
none-filter test [] e = refl
none-filter test (x ∷ xs) e =
    elim (test x) as (λ (b : Bool). (b || list_any test xs) ≡ false → cond b (x ∷ filter test xs) (filter test xs) ≡ []) [
      | true ↦ λ f. absurd (false≢true (sym f))
      | false ↦ λ f. none-filter test xs f
    ] e

not-both : (s t : Bool) → (s ≡ true → t ≡ false) → (t ≡ false → s ≡ true) → not s ≡ t
not-both true t f g = sym (f refl)
not-both false true f g = refl
not-both false false f g = absurd (false≢true (g refl))

pub returns-clause-exact : goal.returns-clause-exact
unfolding tells
returns-clause-exact c =
    let codes = c.args.codes in
    let possible = c.possible_at-possible.result in
    let test : List ℕ → ℕ → Bool = λ p x. is_in x p && not (is_in x codes) in
    let is : possible ≡ slice_index_or c.args.naming.now.possible.items c.args.name all_codes =
    c.possible_at-possible.ensures ∙ ap (λ (sets : List (List ℕ)). slice_index_or sets c.args.name all_codes) c.deref.ensures.value in
    not-both c.is_empty.result _
    (λ e. ap (λ (p : List ℕ). list_any (test p) all_codes) (sym is) ∙ filter-none (test possible) all_codes (sym c.without.ensures ∙ c.is_empty.ensures.0 e))
    (λ e. c.is_empty.ensures.1 (c.without.ensures ∙ none-filter (test possible) all_codes (ap (λ (p : List ℕ). list_any (test p) all_codes) is ∙ e)))
