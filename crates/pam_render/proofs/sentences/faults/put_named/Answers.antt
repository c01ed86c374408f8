use Rattle.std.proofs.Common.{List, Option, ℕ, ap, refl}
use Rattle.pam_codes.proofs.Writing.{all-then, err-front, front-is, front-longer, front-then, writes-is, writes-then}
use Rattle.pam_findings.specs.misspelled.MisspelledView.{misspelled_view}
use Rattle.pam_render.specs.sentences.Faults.{after_text, mending_text}
use Rattle.pam_render.specs.sentences.NamingView.{naming_view}
use Rattle.pam_render.proofs.SentencesProofs.NamedWords.{naming-is}
use Rattle.pam_render.proofs.sentences.faults.put_named.Goals as goal

pub returns-in_err-put_quoted : goal.returns-in_err-put_quoted
returns-in_err-put_quoted g c =
    let m = misspelled_view c.args.misspelled.now in
    let n = naming_view c.args.naming in
    let mending = mending_text m.nearest n.mending in
    err-front _ c.from_residual-in_err-put_quoted.ensures.0
    (front-is (front-longer mending (front-longer (after_text n.after m.word) (front-then c.in_ok-put.ensures c.in_err-put_quoted.ensures)))
    (naming-is m n _ _ (after_text n.after m.word) mending c.as_bytes.ensures.value c.deref.ensures.value refl refl))

pub returns-in_err-put_after : goal.returns-in_err-put_after
returns-in_err-put_after g c =
    let m = misspelled_view c.args.misspelled.now in
    let n = naming_view c.args.naming in
    let mending = mending_text m.nearest n.mending in
    err-front _ c.from_residual-in_err-put_after.ensures.0
    (front-is (front-longer mending (front-then (all-then c.in_ok-put.ensures c.in_ok-put_quoted.ensures) c.in_err-put_after.ensures))
    (naming-is m n _ _ _ mending c.as_bytes.ensures.value c.deref.ensures.value (ap (after_text n.after) c.deref-2.ensures.value) refl))

pub returns : goal.returns
returns g c =
    let m = misspelled_view c.args.misspelled.now in
    let n = naming_view c.args.naming in
    writes-is _ _ _ _ _ _
    (writes-then _ _ _ (all-then (all-then c.in_ok-put.ensures c.in_ok-put_quoted.ensures) c.in_ok-put_after.ensures) c.put_mending.ensures)
    (naming-is m n _ _ _ _ c.as_bytes.ensures.value c.deref.ensures.value (ap (after_text n.after) c.deref-2.ensures.value)
    (ap (λ (nearest : Option (List ℕ)). mending_text nearest n.mending) c.nearest_of.ensures))
