use Rattle.std.proofs.Common.{◌∷◌, [], codes, ap, refl}
use Rattle.std.specs.List.{concat}
use Rattle.pam_codes.proofs.Writing.{all-then, err-front, front-is, front-longer, front-then, writes-is, writes-then}
use Rattle.pam_conf.specs.ItemsOf.{sub_list}
use Rattle.pam_conf.specs.Stack.{SubList}
use Rattle.pam_render.proofs.TextProofs.ShowTexts.{sub_line-is}
use Rattle.pam_render.specs.text.Header.{name_at}
use Rattle.pam_render.specs.text.Show.{sub_line}
use Rattle.pam_render.proofs.text.show.put_sub.Goals as goal

pub returns-in_err-put : goal.returns-in_err-put
unfolding sub_line
returns-in_err-put g c =
    err-front _ c.from_residual-in_err-put.ensures.0 (front-longer _ (front-longer _ (front-then c.in_ok-put_indent.ensures c.in_err-put.ensures)))

pub returns-in_err-put_place : goal.returns-in_err-put_place
returns-in_err-put_place g c =
    let files = c.args.at.files.now in
    let text = (sub_list c.sub.inside).text in
    let name = name_at files text.target in
    err-front _ c.from_residual-in_err-put_place.ensures.0
    (front-is
    (front-longer (concat (codes " " ∷ name ∷ codes "\n" ∷ []))
    (front-then (all-then c.in_ok-put_indent.ensures c.in_ok-put.ensures) c.in_err-put_place.ensures))
    (sub_line-is files c.args.at.level text c.args.sub.now.text name (ap (λ (s : SubList). s.text) c.sub.view_is) refl))

pub returns : goal.returns
returns g c =
    let files = c.args.at.files.now in
    let text = (sub_list c.sub.inside).text in
    let name = c.name_at.result.now in
    writes-is _ _ _ _ _ _
    (writes-then _ (concat (codes " " ∷ name ∷ codes "\n" ∷ [])) _
    (all-then (all-then c.in_ok-put_indent.ensures c.in_ok-put.ensures) c.in_ok-put_place.ensures) c.put_line.ensures)
    (sub_line-is files c.args.at.level text c.args.sub.now.text name (ap (λ (s : SubList). s.text) c.sub.view_is) c.name_at.ensures)
