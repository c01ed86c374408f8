use Rattle.std.proofs.Common.{◌∙◌, ap, sym, eq-eqb}
use Rattle.std.proofs.lemmas.Bool.{eqb-true}
use Rattle.pam_codes.specs.SetBits.{codes_of_bits}
use Rattle.pam_codes.proofs.CodeSets.{codes_of_bits-zero, no_bits}
use Rattle.pam_codes.proofs.set.CodeSet.is_empty.Goals as goal

pub returns : goal.returns
returns c = (
  λ h.
      sym c.self.view_is
      ∙ ap codes_of_bits (eqb-true c.self.inside.bits 0 h)
      ∙ codes_of_bits-zero,
  λ h. eq-eqb c.self.inside.bits 0 (no_bits c.self.inside.bits c.self.invariant (c.self.view_is ∙ h)),
)
