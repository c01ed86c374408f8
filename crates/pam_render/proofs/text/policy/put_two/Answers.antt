use Rattle.pam_codes.proofs.Writing.{writes-is}
use Rattle.pam_render.proofs.TextProofs.PolicyTexts.{two-are}
use Rattle.pam_render.specs.parts.Policy.{service_of_place}
use Rattle.pam_render.specs.parts.PolicyView.{host_view}
use Rattle.pam_render.proofs.text.policy.put_two.Goals as goal

pub returns : goal.returns
returns g c =
    let host = host_view c.args.host.now in
    writes-is _ _ _ _ _ _ c.put_phrases-2.ensures
    (two-are (service_of_place host c.args.first) (service_of_place host c.args.second) _ _ c.args.others c.service_of_place-first_name.ensures
    c.service_of_place-second_name.ensures c.if-others-eq0.false)
