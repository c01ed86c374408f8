use Rattle.std.proofs.Common.{◌≡◌, ℕ, List, ◌++◌, Option, Some, codes, refl}
use Rattle.pam_codes.proofs.Writing.{err-front, front-is, front-longer, writes-is, writes-then}
use Rattle.pam_conf.specs.declared.rule.Form.{Form}
use Rattle.pam_conf.specs.declared.rule.Form.TheVariants.{Single}
use Rattle.pam_render.specs.text.Check.{of_service}
use Rattle.pam_render.specs.parts.Check.{text_at}
use Rattle.pam_render.specs.sentences.Shown.{shown_name}
use Rattle.pam_render.specs.parts.CheckNames.{names_view}
use Rattle.pam_render.proofs.text.check.finding.put_of_service.Goals as goal

of_service-is : (form : Form) (services : List (List ℕ)) (given : Option ℕ) (service : ℕ) (name : List ℕ) → form ≡ Single → given ≡ Some service
    → name ≡ text_at services service → codes " of " ++ shown_name name ≡ of_service form services given
of_service-is form services given service name e s f = rw (e, s, f) refl

pub returns-in_err-put-in-Single : goal.returns-in_err-put-in-Single
returns-in_err-put-in-Single g c =
    let names = names_view c.args.names.now in
    let name = text_at names.services c.in-Some.service in
    err-front _ c.from_residual.ensures.0
    (front-is (front-longer (shown_name name) c.in_err-put-in-Single.ensures)
    (of_service-is names.form names.services c.args.service c.in-Some.service name c.in-Single.is c.in-Some.is refl))

pub returns-in_ok-put-in-Single : goal.returns-in_ok-put-in-Single
returns-in_ok-put-in-Single g c =
    let names = names_view c.args.names.now in
    writes-is _ _ _ _ _ _ (writes-then _ _ _ c.in_ok-put-in-Single.ensures c.put_name.ensures)
    (of_service-is names.form names.services c.args.service c.in-Some.service _ c.in-Single.is c.in-Some.is (rw c.deref.ensures.value at c.text_at.ensures))
