use Rattle.std.proofs.Common.{◌∙◌, List, ℕ, Option, Some, ap, sym}
use Rattle.std.specs.Option.{option_map}
use Rattle.pam_policy.specs.text.Codes.{all_but}
use Rattle.pam_policy.proofs.TextProofs.CodeSteps.{all_without}
use Rattle.pam_policy.proofs.text.codes.others.Goals as goal

pub returns-in-Some : goal.returns-in-Some
returns-in-Some c =
    ap Some (all_without _ c.in-Some.codes (rw c.all.ensures at c.without.ensures))
    ∙ ap (λ (o : Option (List ℕ)). option_map all_but o) (sym c.in-Some.is)
