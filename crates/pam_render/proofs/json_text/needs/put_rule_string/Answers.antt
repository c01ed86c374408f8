use Rattle.std.proofs.Common.{◌++◌, codes}
use Rattle.std.specs.List.{flat_map}
use Rattle.json.specs.Print.{escape}
use Rattle.pam_codes.proofs.Writing.{err-front, front-is, front-longer, front-then, writes-is, writes-then}
use Rattle.pam_policy.specs.needs.Suggestions.{suggestion_view}
use Rattle.pam_report.specs.ReplyViews.{needs_view}
use Rattle.pam_render.proofs.JsonTextProofs.PolicyJson.{string-is}
use Rattle.pam_render.specs.sentences.Needs.{rule_phrases}
use Rattle.pam_render.specs.sentences.Phrases.{Phrase, phrase_chars}
use Rattle.pam_render.proofs.json_text.needs.put_rule_string.Goals as goal

pub returns-in_err-put : goal.returns-in_err-put
returns-in_err-put g c =
    let phrases = rule_phrases (needs_view c.args.reply.now) (suggestion_view c.args.rule.now) in
    err-front _ c.from_residual.ensures.0
    (front-is
    (front-longer (flat_map (λ (phrase : Phrase). escape (phrase_chars phrase)) phrases ++ codes "\"") c.in_err-put.ensures) (string-is phrases))

pub returns-in_err-put_needed_rule : goal.returns-in_err-put_needed_rule
returns-in_err-put_needed_rule g c =
    err-front _ c.from_residual-in_err-put_needed_rule.ensures.0
    (front-is (front-then c.in_ok-put.ensures (front-longer (codes "\"") c.in_err-put_needed_rule.ensures))
    (string-is (rule_phrases (needs_view c.args.reply.now) (suggestion_view c.args.rule.now))))

pub returns : goal.returns
returns g c =
    writes-is _ _ _ _ _ _ (writes-then _ _ _ c.in_ok-put.ensures (writes-then _ _ _ c.in_ok-put_needed_rule.ensures c.put-2.ensures))
    (string-is (rule_phrases (needs_view c.args.reply.now) (suggestion_view c.args.rule.now)))
