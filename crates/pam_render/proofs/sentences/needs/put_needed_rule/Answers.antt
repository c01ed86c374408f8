use Rattle.std.proofs.Common.{◌∙◌, [], ◌∷◌, refl}
use Rattle.std.specs.List.{flat_map}
use Rattle.pam_codes.proofs.Writing.{all-then, err-front, front-is, front-longer, front-then, writes-is, writes-then}
use Rattle.pam_policy.specs.needs.Suggestions.{suggestion_view}
use Rattle.pam_report.specs.ReplyViews.{needs_view}
use Rattle.pam_render.proofs.SentencesProofs.NeedsSentences.{rule-is}
use Rattle.pam_render.specs.sentences.Needs.{end_words, events_in, events_phrases, words_before}
use Rattle.pam_render.specs.sentences.Phrases.{Said}
use Rattle.pam_render.proofs.sentences.needs.put_needed_rule.Goals as goal

pub returns-in_err-put_phrases : goal.returns-in_err-put_phrases
returns-in_err-put_phrases g c =
    let value = needs_view c.args.reply.now in
    let rule = suggestion_view c.args.rule.now in
    let text = g.F.Phrases.text in
    err-front _ c.from_residual.ensures.0
    (front-is
    (front-longer (flat_map text (Said (end_words rule) ∷ []))
    (front-longer (flat_map text (events_phrases (words_before rule) value.items (events_in rule))) c.in_err-put_phrases.ensures))
    (rule-is text value rule _ _ _ _ _ c.as_bytes.ensures.value (c.as_bytes-2.ensures.value ∙ c.kind_name.ensures) refl refl refl))

pub returns-in_err-put_events : goal.returns-in_err-put_events
returns-in_err-put_events g c =
    let value = needs_view c.args.reply.now in
    let rule = suggestion_view c.args.rule.now in
    let text = g.F.Phrases.text in
    err-front _ c.from_residual-in_err-put_events.ensures.0
    (front-is
    (front-longer (flat_map text (Said (end_words rule) ∷ [])) (front-then c.in_ok-put_phrases.ensures c.in_err-put_events.ensures))
    (rule-is text value rule _ _ _ _ _ c.as_bytes.ensures.value (c.as_bytes-2.ensures.value ∙ c.kind_name.ensures) c.words_before.ensures
    c.events_in.ensures refl))

pub returns : goal.returns
returns g c =
    let value = needs_view c.args.reply.now in
    let rule = suggestion_view c.args.rule.now in
    writes-is _ _ _ _ _ _ (writes-then _ _ _ (all-then c.in_ok-put_phrases.ensures c.in_ok-put_events.ensures) c.put_phrases-2.ensures)
    (rule-is g.F.Phrases.text value rule _ _ _ _ _ c.as_bytes.ensures.value (c.as_bytes-2.ensures.value ∙ c.kind_name.ensures) c.words_before.ensures
    c.events_in.ensures c.end_words.ensures)
