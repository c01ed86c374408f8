use Rattle.std.proofs.Common.{codes, refl}
use Rattle.std.specs.List.{flat_map}
use Rattle.pam_codes.proofs.Writing.{all-then, err-front, front-is, front-longer, front-then, writes-is, writes-then}
use Rattle.pam_render.proofs.TextProofs.PolicyTexts.{found-is}
use Rattle.pam_render.specs.parts.PolicyView.{host_view, told_view}
use Rattle.pam_render.specs.sentences.Phrases.{phrase_text}
use Rattle.pam_render.specs.sentences.Policy.{finding_phrases}
use Rattle.pam_render.specs.text.Policy.{places_phrases}
use Rattle.pam_render.proofs.text.policy.put_found.Goals as goal

pub returns-in_err-put_heading : goal.returns-in_err-put_heading
returns-in_err-put_heading g c =
    let host = host_view c.args.host.now in
    let told = told_view c.args.told.now in
    let said = flat_map phrase_text (finding_phrases host told.rule.text told.finding) in
    err-front _ c.from_residual.ensures.0
    (front-is
    (front-longer (codes "\n")
    (front-longer (flat_map phrase_text (places_phrases host told.places)) (front-longer said c.in_err-put_heading.ensures)))
    (found-is host told told.places refl))

pub returns-in_err-put_policy_said : goal.returns-in_err-put_policy_said
returns-in_err-put_policy_said g c =
    let host = host_view c.args.host.now in
    let told = told_view c.args.told.now in
    err-front _ c.from_residual-in_err-put_policy_said.ensures.0
    (front-is
    (front-longer (codes "\n")
    (front-longer (flat_map phrase_text (places_phrases host told.places)) (front-then c.in_ok-put_heading.ensures c.in_err-put_policy_said.ensures)))
    (found-is host told told.places refl))

pub returns-in_err-put_places : goal.returns-in_err-put_places
returns-in_err-put_places g c =
    let before = all-then c.in_ok-put_heading.ensures c.in_ok-put_policy_said.ensures in
    err-front _ c.from_residual-in_err-put_places.ensures.0
    (front-is (front-longer (codes "\n") (front-then before c.in_err-put_places.ensures))
    (found-is (host_view c.args.host.now) (told_view c.args.told.now) _ c.deref.ensures.value))

pub returns : goal.returns
returns g c =
    let before = all-then c.in_ok-put_heading.ensures c.in_ok-put_policy_said.ensures in
    writes-is _ _ _ _ _ _ (writes-then _ _ _ (all-then before c.in_ok-put_places.ensures) c.put.ensures)
    (found-is (host_view c.args.host.now) (told_view c.args.told.now) _ c.deref.ensures.value)
