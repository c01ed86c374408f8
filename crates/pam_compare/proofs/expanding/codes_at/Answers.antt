use Rattle.std.proofs.Common.{◌≡◌, ◌∙◌, ℕ, List, Some, ap, get_or, subst, sym, true}
use Rattle.std.specs.Prelude.{slice_get}
use Rattle.pam_codes.specs.Code.{all_codes}
use Rattle.pam_codes.specs.Set.{is_in}
use Rattle.pam_compare.specs.declared.held.HeldAnswer.{HeldAnswer}
use Rattle.pam_compare.specs.Held.{Holds}
use Rattle.pam_compare.specs.inner.Naming.{IsPossible}
use Rattle.pam_compare.proofs.expanding.codes_at.Goals as goal

pub returns-clause-kept : goal.returns-clause-kept
unfolding IsPossible
returns-clause-kept c a can holds =
    let name = c.turn_name-name.result in
    let is = c.possible_at.ensures ∙ ap (λ (l : List (List ℕ)). get_or l name all_codes) c.deref-2.ensures.value in
    let member : is_in (a name) c.possible_at.result ≡ true = subst (λ (s : List ℕ). is_in (a name) s ≡ true) (sym is) (can name).1 in
    subst (λ (n : ℕ). is_in (a n) c.held_codes.result ≡ true) c.turn_name-name.ensures
    (c.held_codes.ensures.kept a (can name).0 (subst (Holds a) (sym c.deref.ensures.value) holds) member)

pub returns-clause-within : goal.returns-clause-within
returns-clause-within c x h =
    let name = c.turn_name-name.result in
    let possible = c.args.pair.now.naming.now.possible.items in
    let is = c.possible_at.ensures ∙ ap (λ (l : List (List ℕ)). get_or l name all_codes) c.deref-2.ensures.value in
    subst (λ (n : ℕ). is_in x (get_or possible n all_codes) ≡ true) c.turn_name-name.ensures
    (subst (λ (s : List ℕ). is_in x s ≡ true) is (c.held_codes.ensures.within x h))

pub returns-clause-left : goal.returns-clause-left
returns-clause-left c i h at same =
    c.held_codes.ensures.left i h (subst (λ (l : List HeldAnswer). slice_get l i ≡ Some h) (sym c.deref.ensures.value) at) (same ∙ sym c.turn_name-name.ensures)

pub returns-clause-all : goal.returns-clause-all
returns-clause-all c x low can leaves =
    let possible = c.args.pair.now.naming.now.possible.items in
    let is = c.possible_at.ensures ∙ ap (λ (l : List (List ℕ)). get_or l c.turn_name-name.result all_codes) c.deref-2.ensures.value in
    let member : is_in x c.possible_at.result ≡ true =
    ap (is_in x) is ∙ subst (λ (n : ℕ). is_in x (get_or possible n all_codes) ≡ true) (sym c.turn_name-name.ensures) can in
    c.held_codes.ensures.all x low member
    (λ i h at same. leaves i h (subst (λ (l : List HeldAnswer). slice_get l i ≡ Some h) c.deref.ensures.value at) (same ∙ c.turn_name-name.ensures))
