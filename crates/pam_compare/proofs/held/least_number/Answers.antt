use Rattle.std.proofs.Common.{◌∙◌, ℕ, List, Option, ap, sym, unwrap_or}
use Rattle.std.specs.Prelude.{slice_get}
use Rattle.pam_compare.proofs.Sameness.{codes-kept}
use Rattle.pam_compare.proofs.held.least_number.Goals as goal

pub returns-in-Some : goal.returns-in-Some
returns-in-Some c =
    c.number.ensures.value
    ∙ sym (ap (λ (o : Option ℕ). unwrap_or o 31)
    (ap (λ (l : List ℕ). slice_get l 0) (codes-kept c.args.codes c.in-Some.ensures.order) ∙ sym c.in-Some.ensures.first))

pub returns-in-None : goal.returns-in-None
returns-in-None c =
    sym (ap (λ (o : Option ℕ). unwrap_or o 31)
    (ap (λ (l : List ℕ). slice_get l 0) (codes-kept c.args.codes c.in-None.ensures.order) ∙ sym c.in-None.ensures.first))
