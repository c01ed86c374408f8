use Rattle.std.proofs.Common.{◌∙◌, ◌&&◌, Bool, Bor, List, ℕ, ap, not, refl, sym}
use Rattle.std.specs.List.{list_any}
use Rattle.pam_policy.specs.text.Services.{name_fits}
use Rattle.pam_policy.proofs.TextProofs.ServiceSteps.{fits_by}
use Rattle.pam_policy.proofs.text.services.Services.fits.Goals as goal

pub returns-then-some_fits : goal.returns-then-some_fits
returns-then-some_fits c =
    let any : List (Bor (List ℕ)) → Bool = λ ns. list_any (λ name. name_fits name.now c.args.service.now) ns in
    ap (λ (t : Bool). t && not c.some_fits-then-some_fits.result) (sym c.if-some_fits.true)
    ∙ fits_by c.args.self.now.wanted.items c.args.self.now.unwanted.items c.args.service.now _ _ (c.some_fits.ensures ∙ ap any c.deref.ensures.value)
    (c.some_fits-then-some_fits.ensures ∙ ap any c.deref-then-some_fits.ensures.value)

pub returns-else-some_fits : goal.returns-else-some_fits
returns-else-some_fits c =
    let any : List (Bor (List ℕ)) → Bool = λ ns. list_any (λ name. name_fits name.now c.args.service.now) ns in
    c.if-some_fits.false
    ∙ ap (λ (t : Bool). t && not (any c.args.self.now.unwanted.items)) (sym c.if-some_fits.false)
    ∙ fits_by c.args.self.now.wanted.items c.args.self.now.unwanted.items c.args.service.now _ _ (c.some_fits.ensures ∙ ap any c.deref.ensures.value) refl
