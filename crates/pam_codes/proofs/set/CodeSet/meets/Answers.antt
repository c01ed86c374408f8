use Rattle.std.proofs.Common.{arith}
use Rattle.std.proofs.lemmas.Bool.{eqb-false, not-true, not_from_false, ne_eqb}
use Rattle.std.proofs.lemmas.Nat.{and_le_l}
use Rattle.pam_codes.proofs.SetAlgebra.{in_both, some_in_both}
use Rattle.pam_codes.proofs.set.CodeSet.meets.Goals as goal

pub returns : goal.returns
returns c =
    let a = c.self.inside.bits in
    let b = c.other.inside.bits in
    rw (← c.self.view_is, ← c.other.view_is) (
      λ some. some_in_both a b (eqb-false _ 0 (not-true _ some)) (omega (arith, and_le_l a b, c.self.invariant)),
      λ both. not_from_false _ (ne_eqb _ 0 (in_both a b both.0 both.1 both.2 both.3)),
    )
