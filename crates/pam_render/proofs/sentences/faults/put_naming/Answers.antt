use Rattle.std.proofs.Common.{◌∙◌, List, ap, ℕ, ◌++◌}
use Rattle.pam_codes.proofs.Writing.{err-front, front-is, front-longer, writes-is, writes-then}
use Rattle.pam_findings.specs.misspelled.MisspelledView.{misspelled_view}
use Rattle.pam_render.specs.sentences.Faults.{Naming, named_text, naming_for}
use Rattle.pam_render.specs.sentences.NamingView.{naming_view}
use Rattle.pam_render.specs.sentences.Shown.{shown_name}
use Rattle.pam_render.proofs.sentences.faults.put_naming.Goals as goal

pub returns-in_err-put_name : goal.returns-in_err-put_name
returns-in_err-put_name g c =
    let m = misspelled_view c.args.misspelled.now in
    let rest = named_text m (naming_for m (naming_view c.args.naming)) in
    err-front _ c.from_residual.ensures.0
    (front-is (front-longer rest c.in_err-put_name.ensures) (ap (λ (name : List ℕ). shown_name name ++ rest) c.deref.ensures.value))

pub returns : goal.returns
returns g c =
    let m = misspelled_view c.args.misspelled.now in
    writes-is _ _ _ _ _ _ (writes-then _ _ _ c.in_ok-put_name.ensures c.put_named.ensures)
    (ap (λ (name : List ℕ). shown_name name ++ named_text m (naming_view c.naming_for.result)) c.deref.ensures.value
    ∙ ap (λ (n : Naming). shown_name m.of ++ named_text m n) c.naming_for.ensures)
