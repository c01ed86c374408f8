use Rattle.std.proofs.Common.{◌∙◌, ap, refl, subst, sym}
use Rattle.std.specs.Prelude.{IsSome}
use Rattle.std.proofs.lemmas.Bool.{false≢true}
use Rattle.pam_codes.specs.Set.{is_in}
use Rattle.pam_dispatch.specs.Flat.{rest_of}
use Rattle.pam_dispatch.specs.Runs.{Ask, next_ask}
use Rattle.pam_paths.specs.Classes.{class_at}
use Rattle.pam_paths.proofs.OfferedCodes.{outcome-asked}
use Rattle.pam_paths.proofs.classes.class_anew.Goals as goal

pub returns : goal.returns
returns c =
    let run = rest_of c.args.program.now c.args.place.now in
    c.class_at.ensures (λ d low h. absurd (false≢true (sym (ap (is_in d) c.empty.ensures) ∙ h)))
    ∙ ap (λ (ask : Ask). class_at ask c.outcome-outcome.result) c.asked.ensures
    ∙ ap (class_at (next_ask run)) (sym c.outcome-outcome.ensures ∙ outcome-asked run c.args.code (subst IsSome (sym c.requires.asking) refl))
