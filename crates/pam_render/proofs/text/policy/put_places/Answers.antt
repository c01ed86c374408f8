use Rattle.std.proofs.Common.{◌∙◌, [], ◌∷◌, codes, map}
use Rattle.std.specs.List.{flat_map}
use Rattle.pam_codes.proofs.Writing.{all-then, err-front, front-is, front-longer, front-then, writes-is, writes-then}
use Rattle.pam_render.proofs.TextProofs.PolicyTexts.{places-are}
use Rattle.pam_render.specs.parts.Policy.{service_of_place}
use Rattle.pam_render.specs.parts.PolicyView.{host_view}
use Rattle.pam_render.specs.sentences.Phrases.{Said, phrase_text}
use Rattle.pam_render.specs.text.Policy.{listed}
use Rattle.pam_render.proofs.text.policy.put_places.Goals as goal

pub returns-in_err-put_phrases : goal.returns-in_err-put_phrases
returns-in_err-put_phrases g c =
    let host = host_view c.args.host.now in
    let services = listed (service_of_place host c.in-Some.first.now) (map (service_of_place host) c.in-Some.later.now) in
    err-front _ c.from_residual.ensures.0
    (front-is
    (front-longer (flat_map phrase_text (Said (codes ")") ∷ [])) (front-longer (flat_map phrase_text services) c.in_err-put_phrases.ensures))
    (places-are host _ _ _ _ c.in-Some.ensures.cases.0 (c.as_bytes.ensures.value ∙ c.kind_of_place.ensures)))

pub returns-in_err-put_listed : goal.returns-in_err-put_listed
returns-in_err-put_listed g c =
    let host = host_view c.args.host.now in
    err-front _ c.from_residual-in_err-put_listed.ensures.0
    (front-is
    (front-longer (flat_map phrase_text (Said (codes ")") ∷ [])) (front-then c.in_ok-put_phrases.ensures c.in_err-put_listed.ensures))
    (places-are host _ _ _ _ c.in-Some.ensures.cases.0 (c.as_bytes.ensures.value ∙ c.kind_of_place.ensures)))

pub returns : goal.returns
returns g c =
    let host = host_view c.args.host.now in
    writes-is _ _ _ _ _ _ (writes-then _ _ _ (all-then c.in_ok-put_phrases.ensures c.in_ok-put_listed.ensures) c.put_phrases-2.ensures)
    (places-are host _ _ _ _ c.in-Some.ensures.cases.0 (c.as_bytes.ensures.value ∙ c.kind_of_place.ensures))
