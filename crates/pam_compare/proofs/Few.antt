-- Stacks that ask no module are in one situation.
use Rattle.std.proofs.Common.{◌≡◌, ◌<◌, ◌∙◌, ℕ, List, [], ◌∷◌, Option, Some, None, ap, arith, length, refl, sym}
use Rattle.std.specs.Prelude.{slice_get}
use Rattle.pam_dispatch.specs.declared.flat_item.FlatItem.{FlatItem}
use Rattle.pam_dispatch.specs.Flat.{runs_of}
use Rattle.pam_dispatch.specs.Runs.{Assignment, Runs, asked_module}
use Rattle.pam_paths.specs.Listing.{Allowance}
use Rattle.pam_compare.specs.declared.held.HeldAnswer.{HeldAnswer}
use Rattle.pam_compare.specs.declared.turn.Turn.{Turn}
use Rattle.pam_compare.specs.Situations.{IsReached, Standing}
use Rattle.pam_compare.specs.Walks.{IsAfter, Order, turn_of}

pub first-two : (standings : List Standing) → 1 < length standings →
    (s t : Standing) × (slice_get standings 0 ≡ Some s) × (slice_get standings 1 ≡ Some t)
first-two [] more = absurd (omega (arith, more))
first-two (s ∷ []) more = absurd (omega (arith, more))
first-two (s ∷ t ∷ rest) more = (s, t, refl, refl)

no-turn : (turn : Turn) → None ≡ Some turn → ⊥
no-turn turn e = cc

module _ (old new : List FlatItem) (names : List ℕ) (possible : List (List ℕ)) (old_first : Order) (a b : Assignment)
    (no_old : asked_module (runs_of old) ≡ None) (no_new : asked_module (runs_of new) ≡ None) where
  no-walk : (answers : List HeldAnswer) (left right : Runs) (held : List HeldAnswer) → IsAfter old new names possible old_first a b answers left right held →
      answers ≡ []
  unfolding IsAfter
  no-walk [] left right held w = refl
  no-walk (answer ∷ answers) left right held w = absurd (go answers w.0 w.1 w.2 w.3 (no-walk answers w.0 w.1 w.2 w.3) w.4.turn w.4.turn_is)
    where
      go : (before : List HeldAnswer) (l r : Runs) (h : List HeldAnswer) → IsAfter old new names possible old_first a b before l r h → before ≡ [] →
          (turn : Turn) → turn_of names old_first (asked_module l) (asked_module r) ≡ Some turn → ⊥
      go [] l r h v e turn is =
          no-turn turn (sym (ap (λ (o : Option ℕ). turn_of names old_first o None) (ap asked_module v.0 ∙ no_old))
          ∙ sym (ap (turn_of names old_first (asked_module l)) (ap asked_module v.1 ∙ no_new)) ∙ is)
      go (x ∷ xs) l r h v e turn is = cc

pub no-answers : (old_allows new_allows : Allowance) (old new : List FlatItem) (partners : List (Option ℕ)) (names : List ℕ) (possible : List (List ℕ))
    (old_first : Order) → asked_module (runs_of old) ≡ None → asked_module (runs_of new) ≡ None → (s : Standing) →
    (r : IsReached old_allows new_allows old new partners names possible old_first s) → r.answers ≡ []
no-answers old_allows new_allows old new partners names possible old_first no_old no_new s r =
    no-walk old new names possible old_first r.old_answers r.new_answers no_old no_new r.answers _ _ _ r.after
