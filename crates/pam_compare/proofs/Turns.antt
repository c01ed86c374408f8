-- Whose turn it is, and its answer.
use Rattle.std.proofs.Common.{◌≡◌, ℕ, Bool, true, false, cond, eqb, List, Option, Some, None, refl, subst}
use Rattle.std.proofs.lemmas.Bool.{eqb-true}
use Rattle.pam_dispatch.specs.Runs.{Assignment}
use Rattle.pam_compare.specs.declared.turn.Turn.{Turn}
use Rattle.pam_compare.specs.declared.turn.Turn.TheVariants.{Old, New, Both}
use Rattle.pam_compare.specs.Names.{by_name, name_of}
use Rattle.pam_compare.specs.Walks.{Order, turn_code, turn_name, turn_of}
use Rattle.pam_compare.specs.inner.Turn.{IsTurn}
use Rattle.pam_compare.proofs.Growing.{nothing, same-some}

-- the code that is answered, where both stacks answer by names
pub named-code : (names : List ℕ) (turn : Turn) (a : Assignment) → turn_code turn a (by_name names a) ≡ a (turn_name names turn)
named-code names (Old i) a = refl
named-code names (New j) a = refl
named-code names (Both i j) a = refl

-- whose turn it is, it can be
pub can-turn : (names : List ℕ) (old_first : Order) (old new : Option ℕ) (turn : Turn) → turn_of names old_first old new ≡ Some turn →
    IsTurn names old new turn
can-turn names old_first None None turn e = absurd (nothing turn e)
can-turn names old_first None (Some j) turn e = subst (IsTurn names None (Some j)) (same-some (New j) turn e) refl
can-turn names old_first (Some i) None turn e = subst (IsTurn names (Some i) None) (same-some (Old i) turn e) refl
can-turn names old_first (Some i) (Some j) turn e = by (eqb (name_of names j) i) (old_first i j) refl e
  where
    by : (same first : Bool) → eqb (name_of names j) i ≡ same → cond same (Some (Both i j)) (cond first (Some (Old i)) (Some (New j))) ≡ Some turn →
        IsTurn names (Some i) (Some j) turn
    by true first is e = subst (IsTurn names (Some i) (Some j)) (same-some (Both i j) turn e) (refl, refl, eqb-true (name_of names j) i is)
    by false true is e = subst (IsTurn names (Some i) (Some j)) (same-some (Old i) turn e) refl
    by false false is e = subst (IsTurn names (Some i) (Some j)) (same-some (New j) turn e) refl
