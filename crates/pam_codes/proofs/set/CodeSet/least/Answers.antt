use Rattle.std.proofs.Common.{◌∙◌, ap, slice_get, List, ℕ, refl}
use Rattle.pam_codes.proofs.CodeSets.{codes_of_bits-zero, least_code, codes_of_bits-is_set}
use Rattle.pam_codes.proofs.set.CodeSet.least.Goals as goal

pub returns-then-self-eq0-clause-first : goal.returns-then-self-eq0-clause-first
returns-then-self-eq0-clause-first c = rw (← c.self.view_is, c.if-self-eq0.true, codes_of_bits-zero) refl

pub returns-then-self-eq0-clause-order : goal.returns-then-self-eq0-clause-order
returns-then-self-eq0-clause-order c = rw (← c.self.view_is) (codes_of_bits-is_set c.self.inside.bits)

pub returns-clause-first : goal.returns-clause-first
returns-clause-first c =
    c.new.ensures ∙ least_code c.self.inside.bits c.if-self-eq0.false c.self.invariant ∙ ap (λ (codes : List ℕ). slice_get codes 0) c.self.view_is

pub returns-clause-order : goal.returns-clause-order
returns-clause-order c = rw (← c.self.view_is) (codes_of_bits-is_set c.self.inside.bits)
