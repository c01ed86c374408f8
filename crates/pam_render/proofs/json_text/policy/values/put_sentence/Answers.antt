use Rattle.std.proofs.Common.{◌++◌, codes}
use Rattle.std.specs.List.{flat_map}
use Rattle.json.specs.Print.{escape}
use Rattle.pam_codes.proofs.Writing.{err-front, front-is, front-longer, front-then, writes-is, writes-then}
use Rattle.pam_render.proofs.JsonTextProofs.PolicyJson.{string-is}
use Rattle.pam_render.specs.parts.PolicyView.{host_view, told_view}
use Rattle.pam_render.specs.sentences.Phrases.{Phrase, phrase_chars}
use Rattle.pam_render.specs.sentences.Policy.{finding_phrases}
use Rattle.pam_render.proofs.json_text.policy.values.put_sentence.Goals as goal

pub returns-in_err-put : goal.returns-in_err-put
returns-in_err-put g c =
    let told = told_view c.args.told.now in
    let phrases = finding_phrases (host_view c.args.host.now) told.rule.text told.finding in
    err-front _ c.from_residual.ensures.0
    (front-is
    (front-longer (flat_map (λ (phrase : Phrase). escape (phrase_chars phrase)) phrases ++ codes "\"") c.in_err-put.ensures) (string-is phrases))

pub returns-in_err-put_policy_said : goal.returns-in_err-put_policy_said
returns-in_err-put_policy_said g c =
    let told = told_view c.args.told.now in
    err-front _ c.from_residual-in_err-put_policy_said.ensures.0
    (front-is (front-then c.in_ok-put.ensures (front-longer (codes "\"") c.in_err-put_policy_said.ensures))
    (string-is (finding_phrases (host_view c.args.host.now) told.rule.text told.finding)))

pub returns : goal.returns
returns g c =
    let told = told_view c.args.told.now in
    writes-is _ _ _ _ _ _ (writes-then _ _ _ c.in_ok-put.ensures (writes-then _ _ _ c.in_ok-put_policy_said.ensures c.put-2.ensures))
    (string-is (finding_phrases (host_view c.args.host.now) told.rule.text told.finding))
